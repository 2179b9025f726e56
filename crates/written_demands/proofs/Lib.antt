pub mod TidySurveyed
pub mod Alike
pub mod Granted
pub mod AsRules
