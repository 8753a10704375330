pub mod Reloading
