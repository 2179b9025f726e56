pub mod FirstColumns
pub mod Knowing
pub mod Granted
pub mod Counts
pub mod SameTaking
pub mod KeptOn
pub mod PlainTakings
