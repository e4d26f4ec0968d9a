pub mod Formats
pub mod Decode
pub mod Registers
pub mod Execute
pub mod Encode
pub mod Sound
pub mod Reach
pub mod Examples
