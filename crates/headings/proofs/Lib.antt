pub mod BosLines
pub mod EosLines
pub mod HeadingSteps
