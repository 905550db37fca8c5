pub mod Props
pub mod PositionLaws
pub mod AskLaws
pub mod FitLaws
pub mod HeaderLaws
