-- What the proofs of the crates above cite.
pub mod NumberLaws
