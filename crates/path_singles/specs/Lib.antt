pub mod Coordinates
pub mod Converting
pub mod Tables
