-- The theorems: document 01's examples; the round trip; two levels of one file; the plain table and the packed one; how much room tables need; the reasons of refusals; a good start; what an answer says.
pub mod Examples
pub mod TransformExamples
pub mod ShapeExamples
pub mod Tested
pub mod RoundTrip
pub mod Promises
pub mod LevelLaws
pub mod PlainLaws
pub mod RoomLaws
pub mod BlankLaws
pub mod ReasonLaws
pub mod StartLaws
pub mod CallLaws
-- What a proof of the reader or of the writer cites, step by step.
pub mod EngineLaws
pub mod ListLaws
pub mod WalkLaws
pub mod SizeLaws
pub mod OneLaws
-- What these rest on: the absurd step, bits, bytes, and the round trips of items, formats, blocks, bodies, headers, states and lists.
pub mod Absurd
pub mod BitLaws
pub mod ByteLaws
pub mod Trip
pub mod ItemLaws
pub mod BlockLaws
pub mod BodyLaws
pub mod HeadLaws
pub mod StateLaws
pub mod PackLaws
pub mod ListTrip
