pub mod ListedFields
pub mod PairWalks
pub mod RisingRules
pub mod Judgements
pub mod NodeSteps
pub mod PlainColumns
pub mod PlainLines
