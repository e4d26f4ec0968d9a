pub mod Reading
pub mod Putting
mod Encoded
mod Accounted
mod Kept
mod Reached
mod Shown
