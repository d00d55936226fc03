pub mod Meaning
pub mod Refusals
pub mod Answers
pub mod Opening
pub mod Rows
pub mod Inverting
pub mod Lawful
