pub mod Page
pub mod Places
pub mod Lines
pub mod Masks
pub mod Answers
pub mod Cases
