pub mod WordSheet
