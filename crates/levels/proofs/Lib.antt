pub mod Ranks
pub mod Rising
pub mod Halves
