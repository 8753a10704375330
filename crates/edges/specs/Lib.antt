pub mod Edges
pub mod FullTables
pub mod LongScripts
pub mod LongestChain
pub mod MostLooked
