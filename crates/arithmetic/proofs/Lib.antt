pub mod Table
pub mod Sums
pub mod Steps
pub mod Runs
pub mod Inverting
pub mod Openings
