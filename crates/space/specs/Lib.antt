pub mod Entries
pub mod Tables
pub mod Lines
pub mod Side
pub mod Bytes
pub mod Laws
