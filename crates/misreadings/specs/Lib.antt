pub mod Readings
pub mod ShutOut
pub mod Deleting
pub mod DynamicRule
pub mod HowFar
