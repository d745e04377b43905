pub mod Figures
pub mod Bounds
pub mod Found
pub mod Cases
