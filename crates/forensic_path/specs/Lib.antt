pub mod Grammar
pub mod Kinds
pub mod Parts
pub mod PathText
pub mod Scanners
