pub mod ExplainedAs
