pub mod Tick
pub mod ItemId
pub mod Version
pub mod Cut
pub mod Text
pub mod Prefix
pub mod Steps
pub mod PrefixLen
