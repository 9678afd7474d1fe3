pub mod Coding
pub mod Forms
pub mod Files
pub mod Segments
pub mod Examples
