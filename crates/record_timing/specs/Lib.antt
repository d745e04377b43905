pub mod Timing
pub mod There
pub mod Items
pub mod Few
