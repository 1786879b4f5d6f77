pub mod Easing
