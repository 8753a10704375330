-- Laws over the numbers of a state.
pub mod Tables
pub mod Slots
pub mod Stored
pub mod Reading
pub mod OneToOne
