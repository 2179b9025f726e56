pub mod Gives
pub mod Outcomes
pub mod SheetsClimb
pub mod AsRules
