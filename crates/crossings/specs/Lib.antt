pub mod Crossings
pub mod Answers
pub mod Examples
