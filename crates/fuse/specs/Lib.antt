pub mod Positions
pub mod Asking
pub mod Layout
