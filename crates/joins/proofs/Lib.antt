pub mod Tabled
pub mod Rising
pub mod Whole
pub mod Joining
pub mod Calls
