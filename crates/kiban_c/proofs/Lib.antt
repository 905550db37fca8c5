pub mod LentLaws
pub mod BuilderCallLaws
pub mod FinishCallLaws
pub mod PointCallLaws
pub mod FilterCallLaws
pub mod LinesCallLaws
pub mod ExactLaws
