pub mod Each
pub mod Maps
pub mod Rooms
pub mod LookUps
pub mod OpenSheets
pub mod Standing
pub mod ReadBack
pub mod NotedOutlines
mod TagNumbers
mod TagOrder
pub mod Parts
