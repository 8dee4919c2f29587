pub mod Merge
pub mod Neighbours
pub mod Places
