pub mod Cuts
pub mod Kept
pub mod Lines
pub mod NoLists
pub mod Placed
mod Rows
pub mod Search
