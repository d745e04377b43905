pub mod Fields
pub mod Promises
