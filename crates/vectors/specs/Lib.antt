pub mod Format
pub mod Space
