pub mod Plain
pub mod Stepping
