pub mod Lists
pub mod Members
pub mod Options
pub mod Tests
