pub mod NoTables
pub mod TablesThere
pub mod TabledSheets
pub mod CountedIds
pub mod SurveyedTables
