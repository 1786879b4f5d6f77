pub mod ValueLaws
pub mod SingleLaws
pub mod ReadingRules
