pub mod Parse
pub mod Stored
pub mod Measures
pub mod Filled
pub mod Answers
pub mod Units
pub mod Rooms
