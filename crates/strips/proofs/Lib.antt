pub mod Refusals
pub mod Twos
pub mod Written
pub mod Telling
pub mod Strips
pub mod Calls
pub mod Examples
