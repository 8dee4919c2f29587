pub mod Class
pub mod Rules
