pub mod Variants
pub mod Scan
pub mod Lines
pub mod LineSteps
pub mod Borders
pub mod Passing
pub mod FoundLines
