pub mod Parity
pub mod Alone
pub mod Imports
