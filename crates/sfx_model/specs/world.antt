pub mod Sets
pub mod World
pub mod Events
pub mod Agreement
pub mod Units
