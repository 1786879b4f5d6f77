-- What is believed of this crate.
pub mod Canvas
-- What its inner functions leave.
pub mod Looking
