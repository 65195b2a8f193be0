pub mod Url
pub mod Domain
pub mod Marks
pub mod SchemeEnd
