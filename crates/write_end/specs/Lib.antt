pub mod Parts
pub mod Flags
pub mod Numbers
pub mod Ends
