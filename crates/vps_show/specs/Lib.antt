pub mod Shown
pub mod Room
pub mod Cases
