-- The walk, an entry at a time. Assumes nothing.
use Prim.Native.Nat.{ℕ, suc, ◌+◌, ◌-◌, ◌<◌, ◌≤◌}
use native.Mathlib.Nat.{add-zero, add-suc, suc-add}
use native.Mathlib.Numerals.{add-one}
use native.Mathlib.Omega.{arith}
use mathlib.Core.Path.{◌≡◌, sym, ap, ◌∙◌}
use mathlib.Core.List.{List}
use mathlib.Core.Bool.{Bool, cond}
use lib.ListN.{length}
use lib.Dec.{eqb}
use borrow.Author.Tests.{ne_eqb}
use Rattle.records.specs.Limits.{DataLength}
use Rattle.records.specs.Walk.{Walk}
use Rattle.records.specs.Places.{next_entry}
use Rattle.records.specs.Rules.{entry_refusal}
use Rattle.records.specs.Walk.{passed, walk_from}

-- so many keys have passed before
abbrev pub after : ℕ → Walk → Walk
after n w = record { keys = n + w.keys; end = w.end; rule = w.rule }

with_keys : Walk → ℕ → Walk
with_keys w n = record { keys = n; end = w.end; rule = w.rule }

pub after_more : (n : ℕ) (w : Walk) → after n (passed w) ≡ after (n + 1) w
unfolding with_keys
after_more n w = ap (with_keys w) (add-suc n w.keys ∙ sym (rw add-one (suc-add n w.keys)))

pub after_stop : (n e r : ℕ) → after n (record { keys = 0; end = e; rule = r }) ≡ record { keys = n; end = e; rule = r }
unfolding with_keys
after_stop n e r = ap (with_keys (record { keys = 0; end = e; rule = r })) (add-zero n)

module _ (slots : ℕ → ℕ) (bytes : List ℕ) (test : DataLength) (prev p k : ℕ) where
  pub walk_end : (b : Bool) → k ≤ 0 → eqb p (length bytes) ≡ b → walk_from slots bytes test prev p k ≡ record { keys = 0; end = p; rule = cond b 0 30 }
  unfolding walk_from
  walk_end b h e = let z : k ≡ 0 = omega arith in rw (z, e)

  module _ (some : 0 < k) where
    one_less : k ≡ suc (k - 1)
    one_less = omega arith

    pub walk_stop : (r : ℕ) → r ≡ entry_refusal slots bytes test prev p → (r ≡ 0 → ⊥) → walk_from slots bytes test prev p k ≡ record { keys = 0; end = p; rule = r }
    unfolding walk_from
    walk_stop r e n = ap (walk_from slots bytes test prev p) one_less ∙ rw (← e, ne_eqb r 0 n)

    pub walk_on : (q : ℕ) → entry_refusal slots bytes test prev p ≡ 0 → q ≡ next_entry bytes p → walk_from slots bytes test prev p k ≡ passed (walk_from slots bytes test p q (k - 1))
    unfolding walk_from
    walk_on q e eq = ap (walk_from slots bytes test prev p) one_less ∙ rw (e, ← eq)
