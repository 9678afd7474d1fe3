pub mod Pairs
pub mod Reading
pub mod Writing
pub mod Shown
