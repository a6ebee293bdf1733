pub mod Weaves
pub mod Members
pub mod Calls
pub mod Feeders
pub mod Completing
pub mod Naming
pub mod Owning
mod Playing
pub mod FullBatches
pub mod Merged
pub mod SoFar
pub mod Ended
pub mod Beginning
pub mod FeederWork
pub mod Leaving
pub mod Lists
pub mod Logging
pub mod Working
pub mod Budgeting
pub mod NamedNodes
mod Targets
pub mod Imports
