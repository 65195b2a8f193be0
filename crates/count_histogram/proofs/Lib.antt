mod Adding
mod Ahead
mod Distinct
pub mod ForCallers
mod Kept
mod Placed
mod Rows
mod Services
mod Tally
