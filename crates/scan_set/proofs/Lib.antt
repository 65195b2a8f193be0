pub mod Contexts
pub mod Images
pub mod Merging
mod Rows
pub mod Says
pub mod Searches
pub mod Shown
pub mod Stands
pub mod Views
pub mod Given
pub mod Levels
pub mod Made
pub mod Fitting
pub mod SameLooks
mod FirstRows
