pub mod Imports
pub mod Playing
pub mod WalkLaws
pub mod Walk
pub mod Completed
pub mod RunLaws
pub mod Right
pub mod Inside
