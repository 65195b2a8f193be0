pub mod Digits
pub mod LenientLaw
mod Rows
pub mod Runs
pub mod Strict
