pub mod OnePath
mod Reading
mod Rows
