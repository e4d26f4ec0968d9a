pub mod Lowest
pub mod Turns
pub mod Made
pub mod Low
pub mod Sound
pub mod Happening
pub mod Ran
