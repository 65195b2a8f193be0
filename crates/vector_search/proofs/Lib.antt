pub mod Broken
pub mod Halves
pub mod Lanes
pub mod Masks
pub mod Shared
