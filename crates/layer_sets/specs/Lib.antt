pub mod Masks
pub mod MaskLaws
pub mod Closed
pub mod Flags
pub mod References
pub mod Rows
pub mod Counted
