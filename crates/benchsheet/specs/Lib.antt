pub mod Lines
pub mod BenchSheet
