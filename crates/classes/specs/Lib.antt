pub mod Tables
pub mod Classes
