pub mod Shown
pub mod Listing
pub mod Causes
pub mod Inner
