pub mod Made
pub mod Ended
pub mod CanEnd
pub mod Clients
