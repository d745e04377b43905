pub mod Same
pub mod Back
