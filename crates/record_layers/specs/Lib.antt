pub mod Turns
pub mod Record
