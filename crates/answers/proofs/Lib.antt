-- What the proofs of the crates above cite.
pub mod AnswerLaws
pub mod LentLaws
