-- The laws that crates above cite: of inheritance, of the walk and its fronts, of long chains and circles, and of the lines turned round.
pub mod InheritsLaws
mod Ways
pub mod WalkLaws
mod ChainLaws
pub mod CircleLaws
pub mod AboveLaws
pub mod Fronts
mod Marking
