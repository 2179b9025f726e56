pub mod Over
pub mod Further
pub mod Fields
