pub mod Blocks
pub mod Image
pub mod Packet
pub mod Words
