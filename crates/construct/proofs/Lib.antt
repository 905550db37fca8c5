-- The laws that the proofs of `construct` cite, and its theorems: `Placed` (every key is found), `Failing` (an attempt fails exactly as the paper says),
-- `Choosing` (the pilots are the least), `Exhausting` (the eight attempts), `Figures` (small cases).
pub mod MembersLaws
pub mod SlotsLaws
pub mod Placed
pub mod SeatsLaws
pub mod PlacesLaws
pub mod FillingLaws
pub mod BucketLaws
pub mod StepLaws
pub mod BehindLaws
pub mod AttemptLaws
pub mod LayingLaws
pub mod KeysLaws
pub mod ConstructLaws
pub mod FitsLaws
pub mod TurnsLaws
pub mod Failing
pub mod Choosing
pub mod Exhausting
pub mod Figures
