pub mod LineEnds
pub mod NextLines
