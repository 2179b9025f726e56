pub mod Slices
pub mod RowMoves
pub mod RowTexts
pub mod ShownTables
