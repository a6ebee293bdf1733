pub mod Laws
pub mod Sections
pub mod Segments
pub mod Inside
