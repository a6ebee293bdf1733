pub mod Pieces
pub mod Texts
pub mod Turning
pub mod Wholes
pub mod Writing
pub mod Adding
pub mod Imports
