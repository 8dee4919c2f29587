pub mod Segments
pub mod Merge
