pub mod Stages
pub mod Whole
pub mod Placing
