pub mod Strips
pub mod Answers
pub mod Examples
