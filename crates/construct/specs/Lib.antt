pub mod Construct
pub mod Keys
pub mod Answer
pub mod Promised
pub mod Inner
