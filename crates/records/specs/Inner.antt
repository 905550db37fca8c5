pub mod Walking
pub mod Stands
