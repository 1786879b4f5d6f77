-- What the proofs of this crate cite, and its theorems.
pub mod FileLaws
pub mod Demands
