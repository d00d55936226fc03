pub mod Refusals
pub mod Readings
pub mod Reach
pub mod Answers
pub mod Working
