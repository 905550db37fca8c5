-- `hash_keys` stores the keys' hashes one after another. The loop's invariant: p is the place of the entry whose hash is next, and the
-- hashes before it stand. Assumes nothing.
use mathlib.Core.Path.{sym, ap, ◌∙◌}
use native.Mathlib.Omega.{arith}
use Rattle.records.specs.Places.{next_entry}
use Rattle.construct.proofs.KeysLaws.{entry_first, entry_next, entry_inside, hashes_none, hashes_more}
use Rattle.construct.proofs.keys.hash_keys.Goals as goal

pub loop-hash-init : goal.loop-hash-init
loop-hash-init c = (sym (entry_first _), sym (hashes_none _ _))

pub hash_at-requires : goal.hash_at-requires
hash_at-requires c = entry_inside _ _ c.loop-hash.hash-index _ c.requires c.loop-hash.invariant.0 (omega arith)

pub next_entry-p-requires : goal.next_entry-p-requires
next_entry-p-requires c = entry_inside _ _ c.loop-hash.hash-index _ c.requires c.loop-hash.invariant.0 (omega arith)

pub loop-hash-preserved : goal.loop-hash-preserved
loop-hash-preserved c = let w = c.loop-hash.invariant in (
  c.next_entry-p.ensures ∙ ap (next_entry _) w.0 ∙ sym (entry_next _ _),
  hashes_more _ _ _ _ _ _ (omega arith) w.0 c.hash_at.ensures w.1,
)
