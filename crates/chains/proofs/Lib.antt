pub mod Groups
pub mod Alone
pub mod Chain
pub mod InRow
pub mod Shown
