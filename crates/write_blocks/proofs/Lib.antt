pub mod PlaceLaws
pub mod WholeLaws
pub mod FlagLaws
pub mod BodyLaws
pub mod FillLaws
