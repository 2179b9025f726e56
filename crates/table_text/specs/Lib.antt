pub mod RowOrder
pub mod TablesShown
pub mod WholeSheets
