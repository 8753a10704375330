mod Asking
mod Reading
pub mod Turning
