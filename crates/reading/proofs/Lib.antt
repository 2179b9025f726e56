pub mod Keeping
pub mod Begins
pub mod Moving
pub mod Going
pub mod Turning
pub mod RowsSound
pub mod RowOutlines
