pub mod Imports
pub mod Appended
pub mod Hex
pub mod Names
pub mod Numbers
pub mod Places
pub mod Words
