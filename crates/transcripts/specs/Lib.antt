pub mod LineForm
pub mod ScriptLines
pub mod Rows
pub mod Program
pub mod Desk
pub mod Story
pub mod Leaver
pub mod Student
