pub mod Around
pub mod Edges
pub mod Marks
pub mod Turns
pub mod Runs
