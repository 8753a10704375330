mod Named
pub mod Rules
