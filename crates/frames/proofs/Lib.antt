pub mod Digits
pub mod Headers
