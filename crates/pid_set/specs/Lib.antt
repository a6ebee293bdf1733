pub mod Pids
pub mod Sets
