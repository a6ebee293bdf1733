pub mod Imports
pub mod Rows
pub mod Nodes
pub mod Callers
pub mod Ends
pub mod Merging
pub mod Inside
