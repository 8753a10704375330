-- Where the numbers of a state stand, what they mean, and what storing one thing does.
pub mod Places
pub mod View
pub mod Stores
pub mod Results
