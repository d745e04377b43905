pub mod Bytes
pub mod Text
pub mod Adds
