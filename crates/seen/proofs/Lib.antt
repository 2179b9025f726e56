pub mod Weights
pub mod Members
pub mod SeenSets
