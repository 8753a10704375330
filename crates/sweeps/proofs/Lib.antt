-- The laws that crates above cite: of shedding, of a rule asked of all, of tables changed before they are stored, of a role stripped from a table, and of the lowest free session number.
pub mod Strips
pub mod Free
mod Sweeping
mod SweepSteps
pub mod Asking
pub mod Changing
pub mod Shedding
