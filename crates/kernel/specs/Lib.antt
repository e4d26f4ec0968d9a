pub mod Core
pub mod Places
pub mod Relation
pub mod Meets
pub mod Events
pub mod Example
pub mod Finding
pub mod Steps
