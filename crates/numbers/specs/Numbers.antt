-- The number of each refusal, and what a call answers that can refuse (document 01, "Calls and the numbers they refuse with").
use Rattle.std.specs.Prelude.{ℕ, zero, suc, cond, eqb, Result, Ok, Err}
use Rattle.numbers.specs.declared.Refusal.{Refusal}
use Rattle.numbers.specs.declared.Refusal.TheVariants.{State, TooLong, Tombstone, Order, Count, Buffer, Place, Arena, Workspace, Attempts, SelfCheck, Hashes, Damage, Filter, Input, Magic, Dimensions, Pilot, Head, Key, KeyOrder, Slot, Version, Kind, Value, LeftOver}

-- the paper's number of a refusal
abbrev pub number : Refusal → ℕ
number State = 1
number TooLong = 2
number Tombstone = 3
number Order = 4
number Count = 5
number Buffer = 6
number Place = 7
number Arena = 8
number Workspace = 9
number Attempts = 10
number SelfCheck = 11
number Hashes = 12
number Damage = 14
number Filter = 15
number Input = 16
number Magic = 20
number Dimensions = 21
number Pilot = 22
number Head = 23
number Key = 24
number KeyOrder = 25
number Slot = 26
number Version = 27
number Kind = 28
number Value = 29
number LeftOver = 30

-- the refusal of a number; the last one of a number that none has
abbrev pub refusal_of : ℕ → Refusal
refusal_of n =
    cond (eqb n 1) State
    (cond (eqb n 2) TooLong
    (cond (eqb n 3) Tombstone
    (cond (eqb n 4) Order
    (cond (eqb n 5) Count
    (cond (eqb n 6) Buffer
    (cond (eqb n 7) Place
    (cond (eqb n 8) Arena
    (cond (eqb n 9) Workspace
    (cond (eqb n 10) Attempts
    (cond (eqb n 11) SelfCheck
    (cond (eqb n 12) Hashes
    (cond (eqb n 14) Damage
    (cond (eqb n 15) Filter
    (cond (eqb n 16) Input
    (cond (eqb n 20) Magic
    (cond (eqb n 21) Dimensions
    (cond (eqb n 22) Pilot
    (cond (eqb n 23) Head
    (cond (eqb n 24) Key
    (cond (eqb n 25) KeyOrder
    (cond (eqb n 26) Slot
    (cond (eqb n 27) Version
    (cond (eqb n 28) Kind
    (cond (eqb n 29) Value
    LeftOver))))))))))))))))))))))))

-- what a call answers by its number: its value at 0, else the refusal
abbrev pub answered : {A : Type 0} → ℕ → A → Result A Refusal
answered zero value = Ok value
answered (suc n) value = Err (refusal_of (suc n))

-- the paper's number of an answer: 0 for a value, else the refusal's
abbrev pub number_of : {A : Type 0} → Result A Refusal → ℕ
number_of (Ok value) = 0
number_of (Err r) = number r
