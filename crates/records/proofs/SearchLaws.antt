-- The search for the first version within a limit, a version at a time; of an entry, by its head. Assumes nothing.
use Rattle.std.specs.Prelude.{None, Option, Some}
use Prim.Native.Nat.{ℕ, suc, ◌+◌, ◌-◌, ◌<◌, ◌≤◌}
use native.Mathlib.Omega.{arith}
use mathlib.Core.Path.{◌≡◌, sym, ap, ◌∙◌}
use mathlib.Core.List.{List}
use mathlib.Core.Bool.{true, false}
use Rattle.records.specs.Limits.{Limit}
use Rattle.records.specs.declared.cursor.Head.{Head}
use Rattle.records.specs.declared.Record.{Record}
use Rattle.records.specs.declared.Within.TheVariants.{Found, Nothing, Damaged}
use Rattle.records.specs.Model.{within}
use Rattle.records.specs.Cursor.{head_at, version_at}
use Rattle.records.specs.Within.{within_or, first_within, head_within, entry_within}

module _ (bytes : List ℕ) (limit : Limit) (p k : ℕ) where
  pub search_end : k ≤ 0 → Nothing ≡ first_within bytes limit p k
  unfolding first_within
  search_end h = let z : k ≡ 0 = omega arith in rw z

  -- v was read at p
  module _ (some : 0 < k) (v : (Option Record)) (isv : v ≡ version_at bytes p) where
    search_step : first_within bytes limit p k ≡ within_or limit v (first_within bytes limit (p + 21) (k - 1))
    unfolding first_within
    search_step = let s : k ≡ suc (k - 1) = omega arith in ap (first_within bytes limit p) s ∙ rw (← isv)

    pub search_unread : v ≡ None → Damaged ≡ first_within bytes limit p k
    search_unread e = sym (search_step ∙ rw e)

    pub search_found : (r : Record) → v ≡ Some r → within limit r.sequence ≡ true → Found r ≡ first_within bytes limit p k
    search_found r e h = sym (search_step ∙ rw (e, h))

    pub search_on : (r : Record) → v ≡ Some r → within limit r.sequence ≡ false → first_within bytes limit p k ≡ first_within bytes limit (p + 21) (k - 1)
    search_on r e h = search_step ∙ rw (e, h)

-- of an entry, by its head
pub entry_head : (bytes : List ℕ) (p : ℕ) (limit : Limit) (h : (Option Head)) → head_at bytes p ≡ h → entry_within bytes p limit ≡ head_within bytes limit h
unfolding entry_within
entry_head bytes p limit h e = ap (head_within bytes limit) e
