pub mod Rules
pub mod Work
pub mod Turns
pub mod Fault
