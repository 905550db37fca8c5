pub mod Sound
pub mod Table
