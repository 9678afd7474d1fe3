pub mod Order
pub mod Extremes
pub mod Sums
pub mod Runs
pub mod Columns
