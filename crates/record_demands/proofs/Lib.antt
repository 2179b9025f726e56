pub mod Told
pub mod AsRules
pub mod TextAsRules
pub mod AsTold
pub mod Outcomes
pub mod BesideNumbers
