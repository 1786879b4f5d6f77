pub mod TextLaws
pub mod StepLaws
pub mod PackedLaws
pub mod Parts
pub mod Listed
pub mod Printed
pub mod Examples
