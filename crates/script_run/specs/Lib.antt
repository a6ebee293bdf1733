pub mod Imports
pub mod IsRun
pub mod WholeRun
pub mod Budget
pub mod SoFar
pub mod Passing
