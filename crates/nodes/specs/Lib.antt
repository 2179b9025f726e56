pub mod NodeLines
pub mod PlainFields
pub mod PlainNodes
