pub mod Leading
pub mod Cursors
pub mod Splices
pub mod Listing
pub mod Lines
