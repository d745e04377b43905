pub mod Standing
pub mod Skims
pub mod Slot
