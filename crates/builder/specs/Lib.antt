pub mod State
pub mod Add
pub mod SetOffset
pub mod Taken
pub mod Inner
