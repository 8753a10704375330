pub mod Form
pub mod Padding
pub mod Holding
