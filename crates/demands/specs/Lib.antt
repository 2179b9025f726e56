pub mod Surveying
pub mod Accepting
