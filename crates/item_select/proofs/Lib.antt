pub mod Selected
pub mod Viewed
pub mod Imports
