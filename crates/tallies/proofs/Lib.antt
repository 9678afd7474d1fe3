pub mod Heights
pub mod Picking
pub mod Tallying
pub mod Rails
