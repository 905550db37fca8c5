-- `hash_keys` stores the keys' hashes one after another. The loop's invariant: p is the place of the entry whose hash is next, and the
-- hashes before it stand. Assumes nothing.
use mathlib.Core.Path.{◌≡◌}
use lib.ListN.{take}
use Rattle.records.specs.Places.{entry_place}
use Rattle.construct.specs.Keys.{hashes_of}
use Rattle.construct.proofs.keys.hash_keys.Given as goal

abbrev pub invariant-loop-hash : goal.invariant-loop-hash
invariant-loop-hash l =
    (l.p ≡ entry_place l.arena 0 l.hash-index) × (take l.hash-index l.hashes ≡ hashes_of l.seed l.arena l.hash-index)
