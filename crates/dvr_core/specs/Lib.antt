pub mod Imports
pub mod Tapped
pub mod Looks
pub mod Examples
pub mod Stands
pub mod Inside
