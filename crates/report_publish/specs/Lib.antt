pub mod Faults
pub mod OpenFile
pub mod Publish
pub mod RowLines
