-- Buckets and pilots: how many buckets n keys have, and the slot that a bucket's pilot gives a hash (document 01, "Arithmetic and construction").
use Rattle.std.specs.Prelude.{ℕ, ◌+◌, ◌-◌, ◌/◌, cond, nat_lt}
use Rattle.mixing.specs.Mixing.{position_of}

-- b = n/3 rounded up
unfoldable pub buckets_of : ℕ → ℕ
buckets_of n = (n + 2) / 3

-- the mark of a pilot that names a slot: 2^31
abbrev pub direct : ℕ
direct = 2147483648

-- the slot of hash h, of n, under its bucket's pilot: named by it, or by position
unfoldable pub slot_by : (h pilot n : ℕ) → ℕ
slot_by h pilot n = cond (nat_lt pilot direct) (position_of h pilot n) (pilot - direct)
