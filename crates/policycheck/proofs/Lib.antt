-- The laws that the proofs share; crates above cite `Forming`.
mod Passing
mod Ranges
mod Asking
pub mod Forming
