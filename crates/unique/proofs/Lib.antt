-- The laws of each form of promise, and the proofs of the statements.
pub mod Unique
pub mod Promises
pub mod Handed
pub mod Frame
pub mod Buffers
pub mod OwnCalls
pub mod AnyState
