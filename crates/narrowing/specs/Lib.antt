pub mod Narrow
pub mod Examples
