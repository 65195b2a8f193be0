pub mod Appended
pub mod Filled
mod Rows
pub mod Sizes
pub mod Steps
