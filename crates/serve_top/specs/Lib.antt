pub mod Imports
pub mod Inside
pub mod Journaled
pub mod Lines
pub mod Read
pub mod Reported
