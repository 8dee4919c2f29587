pub mod Sameness
pub mod State
pub mod Engine
pub mod Turn
pub mod History
pub mod Comparisons
