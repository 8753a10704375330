-- The laws that crates above cite: of writing, and of reading back.
pub mod Writing
pub mod Putting
pub mod Reading
