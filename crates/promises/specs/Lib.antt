-- What is promised: statements alone, in the order to read. That they hold stands in proofs/. `Refused` (demand 1, each number exactly for its
-- cause and nothing lent changed), `Boundary` (demand 1 of the C boundary's own refusals), `Answers` (number and values of each answer that is
-- no refusal), `Accepted` (demand 3 of any bytes that validation accepts), `Taken` (taken lists, and that no call adds versions oldest first),
-- `Finished` (demand 3 of a list that was taken and finished), `Filter` (demand 3 of a filter), `Listed` (what the desk reads), `Unique` (each
-- call's result is fixed), `Example` (document 01's example, finished, accepted and listed, byte for byte), `Unplaced` (a list that finish
-- answers 10 to), `Figures` (P1 to P9), `IdleAdd`, `IdleIndex`, `IdleFilter` (the idle programs, each shut out on a concrete input), and
-- `Promised`, all of them in one record.
pub mod Refused
pub mod Boundary
pub mod Answers
pub mod Accepted
pub mod Taken
pub mod Finished
pub mod Filter
pub mod Listed
pub mod Unique
pub mod Example
pub mod Unplaced
pub mod Figures
pub mod IdleAdd
pub mod IdleIndex
pub mod IdleFilter
pub mod Promised
