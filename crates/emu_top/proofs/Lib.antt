pub mod Fronts
pub mod Outputs
pub mod Answering
pub mod Asks
pub mod Judging
pub mod Ranged
pub mod Written
pub mod Imports
