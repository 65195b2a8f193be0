pub mod Buckets
pub mod Hash
pub mod Lists
pub mod Places
