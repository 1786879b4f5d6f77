-- The theorems: a tag's own bytes; what a run of files gives; no second answer.
pub mod RunLaws
pub mod Examples
-- What they, and the proofs of the functions, rest on.
pub mod OwnLaws
pub mod WalkLaws
pub mod PlaceLaws
pub mod CountLaws
pub mod AddLaws
