pub mod LentLaws
pub mod TagLaws
