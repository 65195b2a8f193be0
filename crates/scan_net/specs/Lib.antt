pub mod Fields
pub mod Filter
pub mod Marks
pub mod Packet
