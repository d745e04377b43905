pub mod Steps
pub mod Laws
pub mod Promises
pub mod Search
