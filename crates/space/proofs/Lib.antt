pub mod Turned
pub mod Through
pub mod Spaces
pub mod Stored
pub mod Waits
