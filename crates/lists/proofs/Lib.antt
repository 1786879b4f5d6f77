-- What the proofs of this crate, and of those above it, cite.
pub mod StepLaws
pub mod ListLaws
pub mod ReadLaws
