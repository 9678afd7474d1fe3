pub mod Starts
pub mod Steps
pub mod Folds
pub mod Answers
pub mod Written
pub mod Calls
