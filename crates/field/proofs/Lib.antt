pub mod Opened
pub mod Tallies
