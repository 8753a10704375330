pub mod ScriptWords
pub mod Rows
pub mod Bytes
