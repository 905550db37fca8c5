pub mod Validate
pub mod Get
pub mod Table
pub mod Causes
pub mod Lookup
pub mod Inner
