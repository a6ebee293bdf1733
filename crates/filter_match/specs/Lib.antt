pub mod Match
pub mod Meaning
pub mod Places
pub mod Inside
