pub mod State
pub mod Readers
pub mod Fields
