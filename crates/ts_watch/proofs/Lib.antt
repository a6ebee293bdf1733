pub mod HeadLemmas
pub mod Counting
pub mod Places
pub mod Imports
