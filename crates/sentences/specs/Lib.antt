pub mod LineEdges
pub mod Keeping
pub mod Beginnings
pub mod SentenceRead
pub mod UsedRoom
