pub mod Filling
pub mod Headers
