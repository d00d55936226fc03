pub mod Queries
pub mod Characters
pub mod Labels
pub mod Answers
pub mod Texts
