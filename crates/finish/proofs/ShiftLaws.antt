-- An arena behind a front is read as it is alone, every place moved by the front's length. Assumes nothing.
use Prim.Native.Nat.{ℕ, zero, suc, ◌+◌}
use native.Mathlib.Nat.{add_assoc}
use native.Mathlib.Omega.{arith}
use mathlib.Core.Path.{◌≡◌, refl, ap, ap₂, ◌∙◌}
use mathlib.Core.List.{List, ◌∷◌, ◌++◌}
use lib.ListN.{length, get_or, take, drop}
use lib.Seq.{drop-append-add, get_or-append-add}
use Rattle.words.specs.Field.{le}
use Rattle.words.proofs.Laws.{le_append_right}
use Rattle.records.specs.declared.Record.{Record}
use Rattle.records.specs.Model.{Entry}
use Rattle.records.specs.Places.{key_length, version_count, key_at, first_version, next_entry, record_at, versions_from, entry_at, entries_from, entry_place}

module _ (ys xs : List ℕ) where
  -- a number at a place of the arena
  le_moved : (k p d : ℕ) → le k (ys ++ xs) (length ys + p + d) ≡ le k xs (p + d)
  le_moved k p d = ap (le k (ys ++ xs)) (add_assoc (length ys) p d) ∙ le_append_right k xs (p + d) ys

  head_moved : (p : ℕ) → key_length (ys ++ xs) (length ys + p) ≡ key_length xs p
  head_moved p = le_append_right 4 xs p ys

  first_moved : (p : ℕ) → first_version (ys ++ xs) (length ys + p) ≡ length ys + first_version xs p
  first_moved p = omega (arith, head_moved p)

  next_moved : (p : ℕ) → next_entry (ys ++ xs) (length ys + p) ≡ length ys + next_entry xs p
  next_moved p = omega (arith, head_moved p, le_moved 4 p 4)

  pub key_moved : (p : ℕ) → key_at (ys ++ xs) (length ys + p) ≡ key_at xs p
  unfolding key_at
  key_moved p = ap₂ take (head_moved p) (ap (λ (x : ℕ). drop x (ys ++ xs)) (add_assoc (length ys) p 8) ∙ drop-append-add ys xs (p + 8))

  record_moved : (p : ℕ) → record_at (ys ++ xs) (length ys + p) ≡ record_at xs p
  unfolding record_at
  record_moved p =
      let k : get_or (ys ++ xs) (length ys + p + 8) 0 ≡ get_or xs (p + 8) 0 = ap (λ (x : ℕ). get_or (ys ++ xs) x 0) (add_assoc (length ys) p 8) ∙ get_or-append-add ys xs (p + 8) 0 in
      rw (k, le_append_right 8 xs p ys, le_moved 8 p 13, le_moved 4 p 9)

  versions_moved : (p k : ℕ) → versions_from (ys ++ xs) (length ys + p) k ≡ versions_from xs p k
  unfolding versions_from
  versions_moved p zero = refl
  versions_moved p (suc k) =
      ap₂ (λ (r : Record) (rs : List Record). r ∷ rs) (record_moved p) (ap (λ (x : ℕ). versions_from (ys ++ xs) x k) (add_assoc (length ys) p 21) ∙ versions_moved (p + 21) k)

  entry_moved : (p : ℕ) → entry_at (ys ++ xs) (length ys + p) ≡ entry_at xs p
  unfolding entry_at
  entry_moved p =
      ap₂ (λ (k : List ℕ) (v : List Record). record { key = k; versions = v }) (key_moved p)
      (ap₂ (versions_from (ys ++ xs)) (first_moved p) (le_moved 4 p 4) ∙ versions_moved (first_version xs p) (version_count xs p))

  pub entries_moved : (p k : ℕ) → entries_from (ys ++ xs) (length ys + p) k ≡ entries_from xs p k
  unfolding entries_from
  entries_moved p zero = refl
  entries_moved p (suc k) =
      ap₂ (λ (e : Entry) (es : List Entry). e ∷ es) (entry_moved p) (ap (λ (x : ℕ). entries_from (ys ++ xs) x k) (next_moved p) ∙ entries_moved (next_entry xs p) k)

  pub place_moved : (p i : ℕ) → entry_place (ys ++ xs) (length ys + p) i ≡ length ys + entry_place xs p i
  unfolding entry_place
  place_moved p zero = refl
  place_moved p (suc i) = ap (λ (x : ℕ). entry_place (ys ++ xs) x i) (next_moved p) ∙ place_moved (next_entry xs p) i
