pub mod ContentLaws
pub mod ListFlagLaws
pub mod BodyLaws
