pub mod PullLemmas
pub mod Drawing
pub mod Stopping
pub mod CutPackets
pub mod Imports
