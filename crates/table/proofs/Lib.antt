pub mod EngineLaws
pub mod StoringLaws
pub mod ReaderLaws
pub mod FloatLaws
pub mod TextLaws
pub mod FieldLaws
pub mod OneLaws
