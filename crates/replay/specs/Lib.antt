pub mod Reading
pub mod Replays
