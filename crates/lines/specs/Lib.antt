pub mod Grammar
pub mod Reader
pub mod Writer
pub mod Examples
