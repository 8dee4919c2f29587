pub mod Clash
pub mod Decided
pub mod Faults
pub mod Name
pub mod Renamed
pub mod Row
pub mod Item
