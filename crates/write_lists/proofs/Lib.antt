-- What the proofs of this crate, and of those above it, cite.
pub mod ValueLaws
pub mod StoodLaws
pub mod TagLaws
pub mod ListLaws
pub mod OneLaws
