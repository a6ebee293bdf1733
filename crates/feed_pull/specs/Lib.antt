pub mod Imports
pub mod Pulling
pub mod Steps
pub mod Streams
