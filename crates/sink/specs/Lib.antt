pub mod Laying
pub mod Lain
