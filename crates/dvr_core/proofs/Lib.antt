pub mod Places
pub mod Tapping
pub mod Going
pub mod Ledgers
pub mod Moves
pub mod Standing
pub mod Imports
