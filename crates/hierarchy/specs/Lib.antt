pub mod Lines
pub mod Walks
pub mod Marks
