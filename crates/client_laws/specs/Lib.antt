pub mod Imports
pub mod Verbs
pub mod Laws
pub mod Clients
