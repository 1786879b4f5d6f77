pub mod PackLaws
pub mod TagLaws
