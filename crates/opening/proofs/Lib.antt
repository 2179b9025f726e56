pub mod Flattened
pub mod Lent
pub mod Opens
