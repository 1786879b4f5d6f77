pub mod Opacity
pub mod Answers
pub mod Range
pub mod Inner
