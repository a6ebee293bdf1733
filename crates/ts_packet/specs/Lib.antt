pub mod Clean
pub mod Counts
pub mod Cut
pub mod Cutting
pub mod Fields
pub mod Pieces
