pub mod Flags
pub mod Layers
