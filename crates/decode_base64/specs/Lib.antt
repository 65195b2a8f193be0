pub mod Base64
pub mod Starts
pub mod Text
