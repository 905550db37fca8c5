pub mod ReadLaws
pub mod AskLaws
pub mod WriteLaws
pub mod ExactLaws
pub mod WrittenLaws
pub mod BuildingLaws
pub mod BuiltLaws
