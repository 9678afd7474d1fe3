pub mod Highs
pub mod Gains
pub mod Accepted
pub mod Falls
pub mod Exchange
pub mod Examples
