pub mod OpenSentences
pub mod NodeRecords
pub mod FlatEdges
