pub mod Leaf
pub mod Shown
