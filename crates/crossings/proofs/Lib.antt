pub mod Firsts
pub mod Scans
pub mod Crossings
pub mod Calls
pub mod Examples
