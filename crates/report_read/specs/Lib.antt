pub mod Imports
pub mod Ranges
pub mod Report
pub mod Laws
pub mod Inside
