pub mod Characters
pub mod Corrected
pub mod Counting
pub mod Places
pub mod Reached
pub mod Returned
pub mod Suspected
