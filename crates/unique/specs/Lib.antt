-- What it is to have one outcome, and the promises that have; the states that the code hands back, what stays of them number by number, what the
-- code's own calls leave in lent buffers, and what they tell.
pub mod Unique
pub mod Promises
pub mod Handed
pub mod Frame
pub mod Buffers
pub mod OwnCalls
pub mod AnyState
