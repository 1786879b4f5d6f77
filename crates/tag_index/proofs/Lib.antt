-- What the proofs of this crate, and of those above it, cite.
pub mod Examples
pub mod WalkLaws
pub mod SlotLaws
pub mod IndexLaws
pub mod StepLaws
pub mod FileLaws
