pub mod Made
pub mod Script
pub mod Inside
