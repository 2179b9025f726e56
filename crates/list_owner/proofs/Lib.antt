pub mod Owned
pub mod Asked
