pub mod Laws
pub mod Answers
pub mod Words
pub mod Turns
pub mod Repeats
