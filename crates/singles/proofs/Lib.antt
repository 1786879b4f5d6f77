pub mod Rounding
pub mod Examples
pub mod SingleLaws
