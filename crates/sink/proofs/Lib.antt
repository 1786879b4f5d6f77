pub mod LayingLaws
pub mod OneLaws
