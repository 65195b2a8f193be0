pub mod Values
pub mod Options
pub mod Faults
pub mod Settings
pub mod Lawful
pub mod Words
pub mod Record
pub mod Fields
