pub mod Laws
pub mod Examples
pub mod CallRows
pub mod Wrong
pub mod Speech
