-- The conditions of a load, and what saving and loading tell.
pub mod Bare
pub mod Conditions
pub mod Loading
pub mod Saving
