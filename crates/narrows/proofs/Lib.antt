pub mod Doubles
pub mod Written
pub mod Answers
pub mod Calls
