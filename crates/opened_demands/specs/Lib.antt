pub mod ClimbingSheets
pub mod Calls
pub mod OpenedRules
