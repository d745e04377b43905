pub mod Last
pub mod Stored
