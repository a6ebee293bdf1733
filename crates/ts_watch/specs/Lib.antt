pub mod Head
pub mod Watching
