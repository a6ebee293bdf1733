pub mod Fitting
pub mod LawsHold
pub mod Bytes
pub mod Owning
pub mod Pending
pub mod Worked
pub mod Imports
