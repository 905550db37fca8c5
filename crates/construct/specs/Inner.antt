pub mod Seating
pub mod Layout
