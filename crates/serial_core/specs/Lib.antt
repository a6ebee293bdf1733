pub mod Imports
pub mod Nodes
pub mod SerialRun
pub mod Laws
pub mod Budget
pub mod Left
pub mod Runs
pub mod Inside
