pub mod Machine
pub mod Slots
pub mod Calls
pub mod Counts
pub mod Laws
pub mod Example
