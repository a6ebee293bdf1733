pub mod Imports
pub mod Bytes
pub mod Examples
pub mod Laws
pub mod Owning
pub mod Plays
