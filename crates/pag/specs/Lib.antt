pub mod Plain
pub mod PlainBits
pub mod PlainIndex
pub mod PlainFraction
pub mod PlainCanvas
pub mod PlainTally
