pub mod Units
pub mod Held
pub mod Spans
