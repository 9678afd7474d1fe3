pub mod Narrows
pub mod Steps
