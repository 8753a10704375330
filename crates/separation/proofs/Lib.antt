-- The laws that crates above cite: more roles held break what fewer do, and what `any` finds.
pub mod Breaking
pub mod Somes
