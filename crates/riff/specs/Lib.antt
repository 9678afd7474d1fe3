pub mod Files
pub mod Segments
pub mod Examples
