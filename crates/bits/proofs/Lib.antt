-- What the proofs of this crate, and of those above it, cite.
pub mod FieldLaws
pub mod StoreLaws
pub mod WholeLaws
