pub mod Calls
pub mod Content
pub mod Entries
pub mod MemSink
pub mod MemSource
pub mod Sink
pub mod Source
pub mod SureSource
