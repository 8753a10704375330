pub mod Naming
pub mod Users
pub mod Assigning
pub mod Inheriting
pub mod Sets
pub mod Sessions
