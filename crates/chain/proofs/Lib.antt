pub mod Lists
pub mod Runs
mod Taken
mod Inserted
mod Moved
pub mod Born
mod Linked
mod Walked
mod Circled
pub mod Kept
mod Turns
mod Tied
pub mod Boarded
mod Worked
