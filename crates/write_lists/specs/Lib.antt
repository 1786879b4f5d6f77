pub mod Stood
pub mod Tags
