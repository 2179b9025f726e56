pub mod FlatLists
pub mod Promise
