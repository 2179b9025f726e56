pub mod Records
pub mod OpenSentences
pub mod FlatEdges
