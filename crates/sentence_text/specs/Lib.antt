pub mod EdgesRead
pub mod SheetRead
pub mod Readable
pub mod Printable
