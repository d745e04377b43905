pub mod Buffers
pub mod Whole
