pub mod Effects
pub mod NotedTags
pub mod Closing
