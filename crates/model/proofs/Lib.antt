pub mod Puts
pub mod Asking
pub mod Results
pub mod Looking
