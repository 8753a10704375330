-- The laws that the proofs share; crates above cite `Whole`.
mod InOrder
mod Folds
mod Back
pub mod Whole
