-- The tables, proved; `Saved` has what is shown once for all of them.
pub mod Saved
pub mod Bench
pub mod Mixed
pub mod PolicyBytes
