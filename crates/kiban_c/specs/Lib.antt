-- What the C boundary commits to, in the order to read: `Lent` (its own checks, and lists lent to a call), then the calls of each crate below.
-- Mixing has no page: kiban_mix is `mix_of`, and kiban_hash is `hash_of`.
pub mod Lent
pub mod SortCalls
pub mod BuilderCalls
pub mod FinishCalls
pub mod PointCalls
pub mod FilterCalls
pub mod LinesCalls
pub mod Inner
