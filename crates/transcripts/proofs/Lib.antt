pub mod LineForm
pub mod ScriptLines
pub mod Program
pub mod Desk
pub mod Rows
pub mod Scripts
pub mod Permissions
mod Examples
