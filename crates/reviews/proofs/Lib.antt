pub mod ListLaws
pub mod Listed
pub mod Agreeing
pub mod Promised
mod Writing
mod Settling
mod Meeting
pub mod WhichReview
