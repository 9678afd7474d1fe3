pub mod Spelled
pub mod Runs
