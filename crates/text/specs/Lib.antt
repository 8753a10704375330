-- What formats are written in, and writing and reading at a place.
pub mod Bytes
pub mod Places
pub mod Putting
