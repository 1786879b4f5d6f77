pub mod StepLaws
pub mod PathLaws
pub mod BlockLaws
pub mod TableLaws
pub mod LengthLaws
pub mod ShapeLaws
