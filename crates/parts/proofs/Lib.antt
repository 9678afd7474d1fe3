pub mod Comparing
pub mod Standing
pub mod Scattering
pub mod Walking
pub mod Tables
pub mod Fields
