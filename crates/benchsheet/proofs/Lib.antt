pub mod Same
pub mod BenchSheet
