pub mod Items
pub mod Laws
pub mod Selecting
pub mod Inside
