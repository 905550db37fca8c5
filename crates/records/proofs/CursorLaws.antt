-- The head of an entry and a version, a test at a time, and what one that was read says. Assumes nothing.
use Rattle.std.specs.Prelude.{None, Some}
use Prim.Native.Nat.{ℕ, ◌+◌, ◌<◌, ◌≤◌}
use native.Mathlib.Omega.{arith}
use mathlib.Core.Path.{◌≡◌, refl, sym, ◌∙◌}
use mathlib.Core.Bool.{Bool, true, false, cond}
use mathlib.Core.List.{List}
use lib.Dec.{ltb}
use lib.ListN.{length}
use borrow.Author.Tests.{ltb-false, lt-ltb, le-ltb}
use Rattle.records.specs.declared.Kind.{Kind}
use Rattle.records.specs.declared.Record.{Record}
use Rattle.records.specs.declared.cursor.Head.{Head}
use Rattle.records.specs.Model.{kind_read}
use Rattle.records.specs.Places.{key_length, version_count, first_version, sequence_at, kind_at, length_at, offset_at, record_at}
use Rattle.records.specs.Rules.{bad_kind}
use Rattle.records.specs.Cursor.{head_of, head_at, version_at}
use Rattle.records.proofs.KindLaws.{kind_known, kind_unknown}

module _ (bytes : List ℕ) (p : ℕ) where
  pub head_short : length bytes < p + 8 → None ≡ head_at bytes p
  unfolding head_at
  head_short h = rw (lt-ltb (length bytes) (p + 8) h)

  pub head_cut : p + 8 ≤ length bytes → length bytes < first_version bytes p → None ≡ head_at bytes p
  unfolding head_at
  head_cut f h = rw (le-ltb (length bytes) (p + 8) f, lt-ltb (length bytes) (first_version bytes p) h)

  pub head_whole : (l v : ℕ) → l ≡ key_length bytes p → v ≡ version_count bytes p → p + 8 + l ≤ length bytes
      → Some (record { versions = v; first = p + 8 + l }) ≡ head_at bytes p
  unfolding head_at
  head_whole l v el ev h =
      let f : p + 8 ≤ length bytes = omega arith in
      rw (← el, ← ev, le-ltb (length bytes) (p + 8) f, le-ltb (length bytes) (p + 8 + l) h)

  -- the key of a head that was read lies in the bytes
  pub head_read : (h : Head) → head_at bytes p ≡ Some h → first_version bytes p ≤ length bytes
  unfolding head_at
  head_read h e = go (ltb (length bytes) (p + 8)) (ltb (length bytes) (first_version bytes p)) refl e
    where
      go : (s t : Bool) → ltb (length bytes) (first_version bytes p) ≡ t → cond s None (cond t None (Some (head_of bytes p))) ≡ Some h → first_version bytes p ≤ length bytes
      go true t q z = absurd (let y : ◌≡◌ {A = ℕ} 0 1 = cc in omega arith)
      go false true q z = absurd (let y : ◌≡◌ {A = ℕ} 0 1 = cc in omega arith)
      go false false q z = ltb-false (length bytes) (first_version bytes p) q

  -- ---- a version

  pub version_outside : length bytes < p + 21 → None ≡ version_at bytes p
  unfolding version_at
  version_outside h = rw (lt-ltb (length bytes) (p + 21) h)

  pub version_unknown : p + 21 ≤ length bytes → kind_read (kind_at bytes p) ≡ None → None ≡ version_at bytes p
  unfolding version_at
  version_unknown h e = rw (le-ltb (length bytes) (p + 21) h, kind_unknown (kind_at bytes p) e)

  pub version_good : p + 21 ≤ length bytes → bad_kind (kind_at bytes p) ≡ false → version_at bytes p ≡ Some (record_at bytes p)
  unfolding version_at
  version_good h e = rw (le-ltb (length bytes) (p + 21) h, e)

  pub version_known : p + 21 ≤ length bytes → (k : Kind) (s o l : ℕ) → kind_read (kind_at bytes p) ≡ Some k → s ≡ sequence_at bytes p → o ≡ offset_at bytes p → l ≡ length_at bytes p
      → Some (record { kind = k; sequence = s; offset = o; length = l }) ≡ version_at bytes p
  unfolding record_at
  version_known h k s o l e es eo el =
      let q = kind_known (kind_at bytes p) k e in
      sym (version_good h q.0 ∙ rw (q.1, ← es, ← eo, ← el))

  -- a version that was read lies in the bytes
  pub version_read : (r : Record) → version_at bytes p ≡ Some r → p + 21 ≤ length bytes
  unfolding version_at
  version_read r e = go (ltb (length bytes) (p + 21)) refl e
    where
      go : (t : Bool) → ltb (length bytes) (p + 21) ≡ t → cond t None (cond (bad_kind (kind_at bytes p)) None (Some (record_at bytes p))) ≡ Some r → p + 21 ≤ length bytes
      go true q z = absurd (let y : ◌≡◌ {A = ℕ} 0 1 = cc in omega arith)
      go false q z = ltb-false (length bytes) (p + 21) q
