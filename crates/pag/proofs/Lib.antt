-- What follows from the exports' promises.
pub mod PlainLaws
pub mod BitLaws
pub mod IndexLaws
pub mod CanvasLaws
pub mod TallyLaws
pub mod SingleLaws
