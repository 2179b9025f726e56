pub mod Trims
pub mod Percents
pub mod AsNumbers
pub mod SamePlaces
pub mod SameSlices
