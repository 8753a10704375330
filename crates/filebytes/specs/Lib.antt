-- The policy file as the paper words it; read them in this order.
pub mod Sections
pub mod Faults
pub mod Meaning
pub mod FileForm
