pub mod Records
pub mod RecordRules
