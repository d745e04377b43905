pub mod Calls
pub mod Figures
pub mod Lengths
pub mod Success
