pub mod Beside
pub mod Hosts
pub mod Prefixes
pub mod Rows
pub mod Runs
