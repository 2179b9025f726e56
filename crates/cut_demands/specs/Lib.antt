pub mod Cutting
pub mod Opening
