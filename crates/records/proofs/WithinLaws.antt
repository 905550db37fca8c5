-- On versions that pass, the first version within a limit is the record of greatest sequence within it, and so of an entry that stands. Assumes nothing.
use Rattle.std.specs.Prelude.{None, Some}
use Prim.Native.Nat.{ℕ, zero, suc, ◌+◌, ◌-◌, ◌^◌, ◌<◌}
use native.Mathlib.Omega.{arith}
use mathlib.Core.Path.{◌≡◌, refl, sym, ap, ◌∙◌}
use mathlib.Core.List.{List, [], ◌∷◌}
use mathlib.Core.Bool.{Bool, true, false, cond, ◌&&◌}
use mathlib.Core.Option.{Option, none, some}
use lib.Dec.{ltb, leb}
use lib.ListN.{length}
use borrow.Author.Tests.{le-leb}
use Rattle.laws.proofs.RefusalLaws.{or_else_zero}
use Rattle.words.proofs.Laws.{le_lt}
use Rattle.words.specs.Field.{AllBytes}
use Rattle.records.specs.declared.Record.{Record}
use Rattle.records.specs.Limits.{DataLength}
use Rattle.records.specs.Limits.{Limit}
use Rattle.records.specs.declared.Within.{Within}
use Rattle.records.specs.declared.Within.TheVariants.{Found}
use Rattle.records.specs.Model.{within, limit_of, better, greatest, record_within, Falls}
use Rattle.records.specs.Model.Falls.{falls_more}
use Rattle.records.specs.Places.{version_count, first_version, sequence_at, kind_at, record_at, versions_from, entry_at}
use Rattle.records.specs.Rules.{bad_kind, version_refusal, versions_refusal}
use Rattle.records.specs.Cursor.{version_at}
use Rattle.records.specs.Within.{within_or, first_within, entry_within, found_of}
use Rattle.records.specs.Inner.Stands.{EntryStands}
use Rattle.records.proofs.ModelLaws.{falls_rest}
use Rattle.records.proofs.CursorLaws.{head_whole, version_good}
use Rattle.records.proofs.SearchLaws.{entry_head}
use Rattle.records.proofs.RuleLaws.{versioned}
use Rattle.records.proofs.ReadLaws.{versions_fall}

-- ---- the limit as a number

-- none is the greatest number there is
pub within_limit : (limit : Limit) (s : ℕ) → s < 2 ^ 64 → within limit s ≡ leb s (limit_of limit)
unfolding within
within_limit None s h = sym (le-leb s (2 ^ 64 - 1) (omega arith))
within_limit (Some l) s h = refl

-- ---- the first is the greatest

-- the first record within the limit
first_in : Limit → List Record → Option Record
first_in limit [] = none
first_in limit (r ∷ rs) = cond (within limit r.sequence) (some r) (first_in limit rs)

first_below : (limit : Limit) (r : Record) (rs : List Record) (s : Record) → Falls (r ∷ rs) → first_in limit rs ≡ some s → s.sequence < r.sequence
unfolding first_in
first_below limit r [] s f e = absurd (let z : ◌≡◌ {A = ℕ} 0 1 = cc in omega arith)
first_below limit r (t ∷ rs) s (falls_more l f) e = go (first_below limit t rs s f) (within limit t.sequence) e
  where
    go : (first_in limit rs ≡ some s → s.sequence < t.sequence) → (b : Bool) → cond b (some t) (first_in limit rs) ≡ some s → s.sequence < r.sequence
    go ih true q = let h : t ≡ s = cc in rw (← h) l
    go ih false q = let h = ih q in omega arith

better_first : (limit : Limit) (r : Record) (x : Option Record) → ((s : Record) → x ≡ some s → s.sequence < r.sequence)
    → better limit r x ≡ cond (within limit r.sequence) (some r) x
unfolding better
better_first limit r none f = refl
better_first limit r (some s) f = let l = f s refl in rw (le-leb s.sequence r.sequence (omega arith)) (go (within limit r.sequence))
  where
    go : (b : Bool) → cond (b && true) (some r) (some s) ≡ cond b (some r) (some s)
    go true = refl
    go false = refl

first_greatest : (limit : Limit) (rs : List Record) → Falls rs → first_in limit rs ≡ greatest limit rs
unfolding first_in greatest
first_greatest limit [] f = refl
first_greatest limit (r ∷ rs) f =
    sym
    (ap (better limit r) (sym (first_greatest limit rs (falls_rest r rs f)))
    ∙ better_first limit r (first_in limit rs) (λ s. first_below limit r rs s f))

-- ---- the search over bytes

module _ (bytes : List ℕ) (limit : Limit) where
  -- THEOREM: none as a limit is the greatest sequence there is, on all bytes
  pub first_limit : (p k : ℕ) → AllBytes bytes → first_within bytes limit p k ≡ first_within bytes (Some (limit_of limit)) p k
  unfolding first_within version_at record_at within
  first_limit p zero all = refl
  first_limit p (suc k) all = go (ltb (length bytes) (p + 21)) (bad_kind (kind_at bytes p)) (within_limit limit (sequence_at bytes p) (le_lt 8 bytes p all)) (first_limit (p + 21) k all)
    where
      go : (a b : Bool) → within limit (sequence_at bytes p) ≡ within (Some (limit_of limit)) (sequence_at bytes p) → {x y : Within} → x ≡ y
          → within_or limit (cond a None (cond b None (Some (record_at bytes p)))) x ≡ within_or (Some (limit_of limit)) (cond a None (cond b None (Some (record_at bytes p)))) y
      go true b w q = refl
      go false true w q = refl
      go false false w q = rw w (ap (cond (within (Some (limit_of limit)) (sequence_at bytes p)) (Found (record_at bytes p))) q)

  module _ (test : DataLength) where
    search_first : (k prev p : ℕ) → versions_refusal bytes test prev p k ≡ 0 → first_within bytes limit p k ≡ found_of (first_in limit (versions_from bytes p k))
    unfolding versions_refusal first_within versions_from first_in record_at
    search_first zero prev p e = refl
    search_first (suc k) prev p e =
        let s = or_else_zero (version_refusal bytes test prev p) (versions_refusal bytes test p (p + 21) k) e in
        let v = versioned bytes test prev p s.0 in
        rw (version_good bytes p v.fits v.kind)
        (go (within limit (sequence_at bytes p)) (first_within bytes limit (p + 21) k) (first_in limit (versions_from bytes (p + 21) k)) (record_at bytes p) (search_first k p (p + 21) s.1))
      where
        go : (b : Bool) (w : Within) (o : Option Record) (r : Record) → w ≡ found_of o → cond b (Found r) w ≡ found_of (cond b (some r) o)
        go true w o r q = refl
        go false w o r q = q

    -- THEOREM: on versions that pass, the first within the limit is the one of greatest sequence within it
    pub search_greatest : (k prev p : ℕ) → versions_refusal bytes test prev p k ≡ 0 → first_within bytes limit p k ≡ found_of (greatest limit (versions_from bytes p k))
    search_greatest k prev p e = search_first k prev p e ∙ ap found_of (first_greatest limit (versions_from bytes p k) (versions_fall bytes test k prev p e))

  -- THEOREM: of an entry that stands, the first version within a limit is its record within it
  pub entry_within_lem : (p : ℕ) → EntryStands bytes p → entry_within bytes p limit ≡ found_of (record_within limit (entry_at bytes p))
  unfolding entry_at
  entry_within_lem p s =
      entry_head bytes p limit _ (sym (head_whole bytes p _ _ refl refl s.whole))
      ∙ search_greatest (Some s.size) (version_count bytes p) (first_version bytes p) (first_version bytes p) s.versions
