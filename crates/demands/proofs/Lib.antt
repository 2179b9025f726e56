pub mod Outcomes
pub mod SentenceNumbers
pub mod Accepted
