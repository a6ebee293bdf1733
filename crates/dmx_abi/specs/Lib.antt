pub mod Layout
pub mod Decoded
pub mod Written
pub mod Laws
pub mod Examples
