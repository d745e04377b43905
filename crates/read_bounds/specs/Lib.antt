pub mod Within
pub mod Bounds
