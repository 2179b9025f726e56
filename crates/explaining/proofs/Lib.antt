pub mod Described
pub mod TagTables
pub mod Lent
