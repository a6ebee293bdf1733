mod Logged
mod Playing
mod Scripting
mod Streaming
pub mod Imports
