pub mod Files
pub mod Disk
pub mod Contents
pub mod MemDisk
pub mod SureDisk
