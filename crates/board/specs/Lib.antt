pub mod Words
pub mod Slots
pub mod Links
pub mod Parts
pub mod Counted
pub mod Around
pub mod Laws
