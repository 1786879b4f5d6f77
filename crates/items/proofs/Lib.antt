-- Variable-length numbers; every item that shows one number.
pub mod VarLaws
pub mod ItemLaws
