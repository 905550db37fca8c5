pub mod Body
pub mod Finish
pub mod Inner
