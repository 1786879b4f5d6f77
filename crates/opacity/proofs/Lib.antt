pub mod Examples
pub mod ReadLaws
pub mod FrameLaws
pub mod WalkLaws
pub mod StandLaws
pub mod MaskLaws
pub mod FindLaws
pub mod Between
