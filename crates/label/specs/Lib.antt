pub mod Labels
pub mod Refusals
pub mod Schemes
