pub mod Queries
pub mod Surveys
pub mod Elements
pub mod Answers
pub mod Texts
