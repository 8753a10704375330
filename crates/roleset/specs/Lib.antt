pub mod Bounded
pub mod Roles
pub mod Promises
