pub mod PeelLaws
pub mod PlaceLaws
pub mod TableLaws
pub mod StepLaws
pub mod AttemptLaws
