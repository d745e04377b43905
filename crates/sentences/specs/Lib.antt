pub mod Sentences
pub mod Words
pub mod Laws
pub mod Cases
pub mod Named
pub mod Refused
