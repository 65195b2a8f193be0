pub mod Features
pub mod Pages
pub mod Pieces
