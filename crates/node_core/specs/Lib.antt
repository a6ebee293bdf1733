pub mod Imports
pub mod Offers
pub mod Looks
pub mod Stands
pub mod Inside
