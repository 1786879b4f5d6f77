pub mod Writing
pub mod Spellings
pub mod Ends
pub mod Fields
pub mod Writer
