pub mod Entries
pub mod Lineage
pub mod Ring
pub mod Bytes
pub mod OnBoard
pub mod Laws
pub mod Example
