pub mod World
pub mod Vocabulary
pub mod Request
pub mod Promise
pub mod Said
pub mod Effects
