pub mod Numerals
pub mod Parts
pub mod Spacing
pub mod Refusals
pub mod Answered
pub mod Rows
