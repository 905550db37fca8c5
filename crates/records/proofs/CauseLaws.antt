-- A walk's number is given exactly for its cause: 23 to 29 of the first entry that breaks a rule, 30 of bytes left over. Assumes nothing.
use Prim.Native.Nat.{ℕ, zero, suc, ◌+◌, ◌<◌}
use native.Mathlib.Omega.{arith}
use mathlib.Core.Path.{◌≡◌, refl, sym, ap, ◌∙◌}
use mathlib.Core.Bool.{Bool, true, false, cond}
use mathlib.Core.List.{List}
use lib.Dec.{eqb}
use lib.ListN.{length}
use borrow.Author.Tests.{eqb-true, eqb-false, eq-eqb, ne_eqb}
use Rattle.laws.specs.Refusals.{or_else, None}
use Rattle.laws.proofs.RefusalLaws.{none_given, none_only, first_positive}
use Rattle.laws.specs.Refusals.{FirstOfTwo}
use Rattle.laws.proofs.RefusalLaws.{two_given, two_only}
use Rattle.laws.specs.Refusals.FirstOfTwo.{by_first_is, by_second}
use Rattle.records.specs.Limits.{DataLength}
use Rattle.records.specs.Places.{version_count, first_version, next_entry}
use Rattle.records.specs.Rules.{key_causes, key_refusal, version_causes, version_refusal, versions_refusal, entry_versions_refusal, entry_refusal}
use Rattle.records.specs.Walk.{walk_from}
use Rattle.records.specs.Causes.{VersionsStop, EntryStops, WalkStops}
use Rattle.records.specs.Causes.VersionsStop.{version_here, version_later}
use Rattle.records.specs.Causes.EntryStops.{by_key, by_slot, by_versions}
use Rattle.records.specs.Causes.WalkStops.{entry_here, entry_later, left_over}
use Rattle.records.proofs.RuleLaws.{key_exact, key_given, key_numbered, version_exact, version_given, version_numbered}
use Rattle.records.proofs.PassedLaws.{stepped}

module _ (slots : ℕ → ℕ) (bytes : List ℕ) (test : DataLength) where
  key_passes : (prev p : ℕ) → key_refusal bytes prev p ≡ 0 → None (key_causes bytes prev p)
  unfolding key_refusal
  key_passes prev p e = none_only (key_numbered bytes prev p) e

  passes_key : (prev p : ℕ) → None (key_causes bytes prev p) → key_refusal bytes prev p ≡ 0
  unfolding key_refusal
  passes_key prev p n = none_given n

  version_passes : (prev p : ℕ) → version_refusal bytes test prev p ≡ 0 → None (version_causes bytes test prev p)
  unfolding version_refusal
  version_passes prev p e = none_only (version_numbered bytes test prev p) e

  passes_version : (prev p : ℕ) → None (version_causes bytes test prev p) → version_refusal bytes test prev p ≡ 0
  unfolding version_refusal
  passes_version prev p n = none_given n

  module _ (r : ℕ) (is : 0 < r) where
    versions_stop : (prev p k : ℕ) → versions_refusal bytes test prev p k ≡ r → VersionsStop bytes test r prev p k
    unfolding versions_refusal
    versions_stop prev p zero e = absurd (omega arith)
    versions_stop prev p (suc k) e = go (two_only r (version_refusal bytes test prev p) _ e) (versions_stop p (p + 21) k)
      where
        go : FirstOfTwo r (version_refusal bytes test prev p) (versions_refusal bytes test p (p + 21) k)
            → (versions_refusal bytes test p (p + 21) k ≡ r → VersionsStop bytes test r p (p + 21) k) → VersionsStop bytes test r prev p (suc k)
        go (by_first_is q) rest = version_here (version_exact bytes test prev p r is q)
        go (by_second z q) rest = version_later (version_passes prev p z) (rest q)

    entry_stops : (prev p : ℕ) → entry_refusal slots bytes test prev p ≡ r → EntryStops slots bytes test r prev p
    unfolding entry_refusal
    entry_stops prev p e = go (two_only r (key_refusal bytes prev p) _ e)
      where
        then : key_refusal bytes prev p ≡ 0 → FirstOfTwo r (slots p) (entry_versions_refusal bytes test p) → EntryStops slots bytes test r prev p
        then k (by_first_is s) = by_slot (key_passes prev p k) is s
        then k (by_second z v) = by_versions (key_passes prev p k) z (versions_stop (first_version bytes p) (first_version bytes p) (version_count bytes p) v)

        go : FirstOfTwo r (key_refusal bytes prev p) (or_else (slots p) (entry_versions_refusal bytes test p)) → EntryStops slots bytes test r prev p
        go (by_first_is k) = by_key (key_exact bytes prev p r is k)
        go (by_second k s) = then k (two_only r (slots p) (entry_versions_refusal bytes test p) s)

    -- THEOREM: a walk stops with a number only for its cause
    pub walk_stops : (prev p k : ℕ) → (walk_from slots bytes test prev p k).rule ≡ r → WalkStops slots bytes test r prev p k
    unfolding walk_from
    walk_stops prev p zero e = go (eqb p (length bytes)) refl e
      where
        go : (b : Bool) → eqb p (length bytes) ≡ b → cond b 0 30 ≡ r → WalkStops slots bytes test r prev p 0
        go true q f = absurd (omega arith)
        go false q f = left_over (sym f) (eqb-false p (length bytes) q)
    walk_stops prev p (suc k) e = go (eqb (entry_refusal slots bytes test prev p) 0) refl (walk_stops p (next_entry bytes p) k) e
      where
        go : (b : Bool) → eqb (entry_refusal slots bytes test prev p) 0 ≡ b
            → ((walk_from slots bytes test p (next_entry bytes p) k).rule ≡ r → WalkStops slots bytes test r p (next_entry bytes p) k)
            → (stepped slots bytes test prev p k b).rule ≡ r → WalkStops slots bytes test r prev p (suc k)
        go true q rest f = entry_later (eqb-true _ _ q) (rest f)
        go false q rest f = entry_here (entry_stops prev p f)

  -- a cause has a number above 0
  versions_some : {r prev p k : ℕ} → VersionsStop bytes test r prev p k → 0 < r
  versions_some {r} {prev} {p} (version_here f) = first_positive (version_numbered bytes test prev p) f
  versions_some (version_later n s) = versions_some s

  entry_some : {r prev p : ℕ} → EntryStops slots bytes test r prev p → 0 < r
  entry_some {r} {prev} {p} (by_key f) = first_positive (key_numbered bytes prev p) f
  entry_some (by_slot n is s) = is
  entry_some (by_versions n z v) = versions_some v

  pub walk_some : {r prev p k : ℕ} → WalkStops slots bytes test r prev p k → 0 < r
  walk_some (entry_here s) = entry_some s
  walk_some (entry_later z s) = walk_some s
  walk_some (left_over e n) = omega arith

  stop_versions : {r prev p k : ℕ} → VersionsStop bytes test r prev p k → versions_refusal bytes test prev p k ≡ r
  unfolding versions_refusal
  stop_versions {r} {prev} {p} (version_here f) = two_given r _ _ (first_positive (version_numbered bytes test prev p) f) (by_first_is (version_given bytes test prev p r f))
  stop_versions {r} {prev} {p} (version_later n s) = two_given r _ _ (versions_some s) (by_second (passes_version prev p n) (stop_versions s))

  stops_entry : {r : ℕ} (prev p : ℕ) → EntryStops slots bytes test r prev p → entry_refusal slots bytes test prev p ≡ r
  unfolding entry_refusal
  stops_entry {r} prev p s = go s (entry_some s)
    where
      go : EntryStops slots bytes test r prev p → 0 < r → or_else (key_refusal bytes prev p) (or_else (slots p) (entry_versions_refusal bytes test p)) ≡ r
      go (by_key f) is = two_given r _ _ is (by_first_is (key_given bytes prev p r f))
      go (by_slot n l s) is = two_given r _ _ is (by_second (passes_key prev p n) (two_given r _ _ is (by_first_is s)))
      go (by_versions n z v) is = two_given r _ _ is (by_second (passes_key prev p n) (two_given r _ _ is (by_second z (stop_versions v))))

  -- THEOREM: and wherever its cause stands
  pub stops_walk : {r : ℕ} (prev p k : ℕ) → WalkStops slots bytes test r prev p k → (walk_from slots bytes test prev p k).rule ≡ r
  unfolding walk_from
  stops_walk prev p zero (left_over e n) = ap (λ (b : Bool). cond {A = ℕ} b 0 30) (ne_eqb p (length bytes) n) ∙ sym e
  stops_walk prev p (suc k) (entry_later z s) = ap (λ (b : Bool). (stepped slots bytes test prev p k b).rule) (eq-eqb _ 0 z) ∙ stops_walk p (next_entry bytes p) k s
  stops_walk prev p (suc k) (entry_here s) =
      let e = stops_entry prev p s in
      let is = entry_some s in
      ap (λ (b : Bool). (stepped slots bytes test prev p k b).rule) (ne_eqb (entry_refusal slots bytes test prev p) 0 (λ z. omega arith)) ∙ e
