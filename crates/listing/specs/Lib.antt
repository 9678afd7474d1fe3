pub mod Listing
pub mod Pages
pub mod Inputs
pub mod Outputs
