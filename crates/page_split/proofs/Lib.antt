pub mod Counts
pub mod Windows
pub mod PageLists
pub mod Joins
pub mod PieceLists
