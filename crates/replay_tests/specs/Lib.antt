pub mod Turns
pub mod Setting
