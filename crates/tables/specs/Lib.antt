pub mod Names
pub mod RowTexts
pub mod RowRules
