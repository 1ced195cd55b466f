pub mod RunLists
pub mod SetLists
