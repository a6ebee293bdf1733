-- What proofs, private functions and the crate above use. The headline rests on the code that is proved with
-- it, so nothing here must be believed.
pub mod BufferView
pub mod BufferValue
pub mod Capturing
pub mod Coherent
pub mod Gives
pub mod RingHolds
