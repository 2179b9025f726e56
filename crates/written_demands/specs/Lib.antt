pub mod Tidying
pub mod Writings
pub mod WrittenRules
