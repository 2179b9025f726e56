pub mod Asked
pub mod BegunRows
pub mod SpanTests
pub mod NamedLines
pub mod RowsSoFar
pub mod RowTexts
pub mod TagRows
