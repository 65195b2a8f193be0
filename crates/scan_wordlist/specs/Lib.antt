pub mod Filter
pub mod Marks
pub mod Word
