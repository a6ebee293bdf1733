-- What proofs, private functions and the crate above use. The headline rests on the code that is proved with
-- it, so nothing here must be believed.
pub mod Adding
pub mod Begun
pub mod FeederWork
pub mod Leaving
pub mod Working
