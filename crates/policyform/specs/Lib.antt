pub mod Encode
pub mod Form
pub mod Rules
pub mod Promises
