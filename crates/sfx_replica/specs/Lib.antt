pub mod Replica
pub mod Items
pub mod Live
pub mod Edits
pub mod Refusals
pub mod MemoryProvider
