pub mod Texts
pub mod Rests
pub mod Printed
pub mod Inputs
