pub mod Edges
pub mod Promise
