pub mod GetLaws
pub mod ValidateLaws
pub mod SlotLaws
pub mod LookupLaws
pub mod OpenLaws
pub mod Theorems
pub mod CauseLaws
pub mod AnswerLaws
