pub mod Row
pub mod Knowledge
pub mod Skips
pub mod Forgotten
pub mod Forms
pub mod Vectors
pub mod Places
