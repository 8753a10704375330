-- The laws of saving and loading, that crates above cite, and what the proofs share.
mod Front
mod Settling
pub mod Sounding
pub mod Laws
