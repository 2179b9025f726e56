pub mod States
pub mod Judging
pub mod PlainLines
pub mod PlainStarts
