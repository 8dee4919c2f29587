pub mod world
pub mod members
pub mod sessions
