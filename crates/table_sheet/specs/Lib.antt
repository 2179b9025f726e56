pub mod SheetRows
pub mod LookUps
pub mod OpenSheets
pub mod Standing
pub mod Outlines
pub mod Hints
pub mod TagOrders
