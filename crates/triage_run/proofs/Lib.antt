pub mod AfterText
pub mod Ends
pub mod FirstSource
pub mod Grown
pub mod ImageSizes
pub mod Pages
pub mod MadeEnds
pub mod Readings
mod ReportRows
mod TextRows
pub mod WholeReport
