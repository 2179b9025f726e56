pub mod TextParts
pub mod Ready
pub mod Promise
