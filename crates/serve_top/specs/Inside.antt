-- What proofs and private functions use. The clauses of the crate rest on the code that is proved with it, so nothing here must
-- be believed.
pub mod Keeping
pub mod Writing
