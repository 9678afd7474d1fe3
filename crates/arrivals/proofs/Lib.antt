pub mod Beside
pub mod Meeting
pub mod Turns
pub mod Windows
