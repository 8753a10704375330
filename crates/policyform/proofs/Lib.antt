pub mod Counts
pub mod Size
pub mod Lines
