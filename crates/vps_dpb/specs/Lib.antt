pub mod Grid
pub mod Sublayers
