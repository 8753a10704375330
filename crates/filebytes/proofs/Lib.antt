-- The laws of the form.
pub mod Lists
pub mod OneWay
pub mod Listed
pub mod Same
pub mod Built
pub mod Decided
pub mod Tables
pub mod Faultless
pub mod AnyBytes
pub mod FileForm
