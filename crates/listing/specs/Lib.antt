pub mod Decimal
pub mod Listing
pub mod Steps
pub mod Texts
