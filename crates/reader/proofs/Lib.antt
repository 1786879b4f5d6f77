-- What the proofs of this crate, and of those above it, cite.
pub mod SkimLaws
pub mod FileLaws
pub mod Demands
pub mod Room
pub mod Blanking
