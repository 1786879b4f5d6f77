-- What follows from the bit reader's definitions.
pub mod FieldLaws
pub mod Examples
