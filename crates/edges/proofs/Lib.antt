pub mod Filled
pub mod Records
pub mod Promised
pub mod WritingPromised
