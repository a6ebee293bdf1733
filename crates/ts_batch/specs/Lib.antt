pub mod Batch
pub mod Places
pub mod Room
pub mod Inside
