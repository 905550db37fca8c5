pub mod Reading
pub mod Asking
pub mod Writing
pub mod Building
pub mod Inner
