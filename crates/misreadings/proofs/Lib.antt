pub mod Bench
pub mod Readings
pub mod ShutOut
pub mod Deleting
pub mod Reviewers
pub mod DynamicRule
pub mod HowFar
