pub mod Fits
pub mod Meets
pub mod Laws
pub mod Steps
pub mod Codes
pub mod Silent
pub mod Constraints
pub mod Reversed
