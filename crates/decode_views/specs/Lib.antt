pub mod Starts
pub mod Utf16
pub mod Xor
pub mod TwoPairs
