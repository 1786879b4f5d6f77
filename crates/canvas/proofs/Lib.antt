pub mod Examples
pub mod CanvasLaws
pub mod SureLaws
pub mod LookLaws
pub mod JudgeLaws
pub mod CallLaws
