pub mod Flags
pub mod Filling
