-- What proofs, private functions and the crate above use. The headline rests on the code that is proved with
-- it, so nothing here must be believed.
pub mod Lines
pub mod Moving
pub mod Standing
