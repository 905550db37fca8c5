-- Some keys have some buckets, and no more of them than keys. Assumes nothing.
use Rattle.std.proofs.Common.{ℕ, ◌<◌, ◌≤◌, arith}
use Rattle.mixing.specs.Slots.{buckets_of}

pub some_buckets : (n : ℕ) → 0 < n → 0 < buckets_of n
unfolding buckets_of
some_buckets n h = omega arith

pub few_buckets : (n : ℕ) → buckets_of n ≤ n
unfolding buckets_of
few_buckets n = omega arith
