pub mod Model
pub mod Sheet
pub mod Words
pub mod Lists
pub mod Questions
pub mod Sound
pub mod Step
pub mod commands
