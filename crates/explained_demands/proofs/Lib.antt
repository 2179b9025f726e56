pub mod Outcomes
pub mod ToldParts
