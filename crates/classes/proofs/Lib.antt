-- What the proofs of this crate, and of those above it, cite.
pub mod Table
pub mod ClassLaws
pub mod FillLaws
