pub mod Chains
pub mod Find
pub mod Front
pub mod Hits
pub mod Lengths
pub mod Marks
