pub mod Answer
pub mod Number
pub mod Lent
pub mod Refusals
