pub mod Fault
pub mod Refusals
pub mod Report
pub mod Travel
