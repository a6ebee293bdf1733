pub mod Imports
pub mod Causes
pub mod Ring
pub mod Inside
