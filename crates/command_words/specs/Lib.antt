pub mod Meant
pub mod Inside
