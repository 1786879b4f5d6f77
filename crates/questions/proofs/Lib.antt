-- What the proofs of this crate, and of those above it, cite.
pub mod JudgeLaws
pub mod AskLaws
pub mod Demands
