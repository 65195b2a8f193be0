pub mod Calls
pub mod Classes
pub mod Counts
pub mod Numbers
pub mod Places
