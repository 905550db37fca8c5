pub mod Peel
pub mod Inner
