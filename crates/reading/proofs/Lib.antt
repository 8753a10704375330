pub mod Back
mod Padding
mod Gathering
