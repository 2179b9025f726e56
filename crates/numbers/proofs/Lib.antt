pub mod Digits
pub mod Walk
pub mod Told
pub mod ThreeDigits
pub mod SameBytes
