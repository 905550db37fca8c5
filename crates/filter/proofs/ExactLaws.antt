-- Reading accepts exactly the two layouts, with their values; 15 has its exact cause, in reading and in asking; accepted bytes written again
-- are the same bytes. Assumes nothing.
use mathlib.Core.Path.{◌≡◌, refl, sym, ap, ◌∙◌, subst}
use mathlib.Core.Bool.{Bool, true, false, cond}
use mathlib.Core.List.{List, [], ◌∷◌, ◌++◌, append-nil}
use Prim.Native.Nat.{ℕ, suc, ◌+◌, ◌-◌, ◌^◌, ◌≤◌, ◌<◌}
use native.Mathlib.Omega.{arith}
use borrow.Author.Tests.{eq-eqb, eqb-true, le-ltb}
use lib.ListN.{length, drop, length-append, length-drop}
use lib.Seq.{take_at, drop_at}
use Rattle.std.specs.Prelude.{Result, Ok}
use Rattle.numbers.specs.declared.Refusal.{Refusal}
use Rattle.words.specs.Field.{bytes_of, splice, AllBytes}
use Rattle.words.specs.Part.{same_as}
use Rattle.words.proofs.Laws.{le_lt}
use Rattle.words.proofs.Ordered.{same_self}
use Rattle.fuse.specs.declared.Sizes.{Sizes}
use Rattle.fuse.specs.Asking.{contains_of}
use Rattle.fuse.specs.Layout.{filter_magic, positive_bytes, fuse_header, sizes_in, fuse_laid, Accepted}
use Rattle.fuse.proofs.FitLaws.{fitting_accepted, accepted_fitting, cells_some}
use Rattle.fuse.proofs.HeaderLaws.{header_length, sizes_back}
use Rattle.filter.specs.declared.SstFilter.{SstFilter}
use Rattle.filter.specs.declared.SstFilter.TheVariants.{Positive, Fuse, Refused}
use Rattle.filter.specs.declared.Asked.TheVariants as answer
use Rattle.filter.specs.Reading.{read_of, read_refusal, read_values, front_of, acceptable, Layout, positive, fuse}
use Rattle.filter.specs.Asking.{ask_cells_of, ask_of, ask_number}
use Rattle.filter.specs.Writing.{bytes_for, write_of, output_by, WritePost}
use Rattle.filter.proofs.ReadLaws.{read_positive, read_other, positive_bytes_lem, fuse_sizes, fuse_accepted, fuse_bytes}
use Rattle.filter.proofs.AskLaws.{ask_positive, ask_unread, ask_fuse}
use Rattle.filter.proofs.WriteLaws.{front_length}

-- ---- what has a layout is read as it was laid out

-- byte 9 is 0 in one layout and 2 in the other
not_positive : (s : Sizes) (cells : List ℕ) → same_as (fuse_header s ++ cells) positive_bytes ≡ false
unfolding fuse_header filter_magic bytes_of positive_bytes same_as
not_positive s cells = refl

laid_out : (s : Sizes) (cells : List ℕ) → Accepted s (length cells) → true ≡ fuse_laid (fuse_header s ++ cells) s
unfolding fuse_laid
laid_out s cells a =
    let n : length (fuse_header s ++ cells) - 48 ≡ length cells = omega (arith, length-append (fuse_header s) cells, header_length s) in
    rw (n, accepted_fitting s (length cells) a, take_at (fuse_header s) cells 48 (header_length s)) (sym (same_self (fuse_header s)))

pub layout_reads : (bytes : List ℕ) (filter : SstFilter) → Layout bytes filter → read_of bytes ≡ filter
layout_reads bytes filter positive = sym (read_positive positive_bytes (same_self positive_bytes))
layout_reads bytes filter (fuse s cells a l) =
    let u = a.fits.usable in
    let e : sizes_in (fuse_header s ++ cells) ≡ s =
    sizes_back s cells (omega (arith, a.few_keys)) l (omega (arith, u.most)) (cells_some s.segment s.count u).1 in
    sym (read_other (fuse_header s ++ cells) true (not_positive s cells) (rw e (laid_out s cells a))) ∙ ap Fuse e

-- ---- what is accepted has a layout

seed_fits : (bytes : List ℕ) → AllBytes bytes → (s : Sizes) → sizes_in bytes ≡ s → s.seed < 2 ^ 64
unfolding sizes_in
seed_fits bytes b s e = subst (λ (x : Sizes). x.seed < 2 ^ 64) e (le_lt 8 bytes 24 b)

-- the cells of accepted bytes fit the sizes in front of them
cells_accepted : (bytes : List ℕ) (s : Sizes) → read_of bytes ≡ Fuse s → Accepted s (length (drop 48 bytes))
cells_accepted bytes s e = rw length-drop (fuse_accepted bytes s e)

pub reads_layout : (bytes : List ℕ) → AllBytes bytes → (filter : SstFilter) → read_of bytes ≡ filter → (filter ≡ Refused → ⊥) → Layout bytes filter
reads_layout bytes b Positive e n = subst (λ (t : List ℕ). Layout t Positive) (positive_bytes_lem bytes e) positive
reads_layout bytes b (Fuse s) e n =
    subst (λ (t : List ℕ). Layout t (Fuse s)) (fuse_bytes bytes s e)
    (fuse s (drop 48 bytes) (cells_accepted bytes s e) (seed_fits bytes b s (fuse_sizes bytes s e)))
reads_layout bytes b Refused e n = absurd (n refl)

-- ---- 15 exactly where there is no layout

laid_accepted : (bytes : List ℕ) (filter : SstFilter) → Layout bytes filter → filter ≡ Refused → ⊥
laid_accepted bytes filter positive e = cc
laid_accepted bytes filter (fuse s cells a l) e = cc

-- the number is 15 for that alone
unread : (filter : SstFilter) → read_refusal filter ≡ 15 → filter ≡ Refused
unread Positive e = absurd (omega arith)
unread (Fuse s) e = absurd (omega arith)
unread Refused e = refl

pub refused_none : (bytes : List ℕ) → read_refusal (read_of bytes) ≡ 15 → (filter : SstFilter) → Layout bytes filter → ⊥
refused_none bytes e filter k = laid_accepted bytes filter k (sym (layout_reads bytes filter k) ∙ unread (read_of bytes) e)

pub none_refused : (bytes : List ℕ) → AllBytes bytes → ((filter : SstFilter) → Layout bytes filter → ⊥) → read_refusal (read_of bytes) ≡ 15
none_refused bytes b no_way = ap read_refusal (by_case (read_of bytes) refl)
  where
    by_case : (filter : SstFilter) → read_of bytes ≡ filter → read_of bytes ≡ Refused
    by_case Positive e = absurd (no_way Positive (reads_layout bytes b Positive e (λ q. laid_accepted positive_bytes Positive positive q)))
    by_case (Fuse s) e =
        absurd (no_way (Fuse s) (reads_layout bytes b (Fuse s) e (λ q. cc)))
    by_case Refused e = e

-- ---- 0, with its values, for each layout

pub positive_values : (read_refusal (read_of positive_bytes) ≡ 0) × (read_values (read_of positive_bytes) ≡ 0 ∷ 0 ∷ 0 ∷ 0 ∷ 0 ∷ 0 ∷ [])
positive_values = let e = layout_reads positive_bytes Positive positive in (ap read_refusal e, ap read_values e)

pub fuse_values : (s : Sizes) (cells : List ℕ) → Accepted s (length cells) → s.seed < 2 ^ 64
    → (read_refusal (read_of (fuse_header s ++ cells)) ≡ 0)
    × (read_values (read_of (fuse_header s ++ cells)) ≡ 1 ∷ s.keys ∷ s.seed ∷ s.segment ∷ s.count ∷ length cells ∷ [])
fuse_values s cells a l =
    let e = layout_reads (fuse_header s ++ cells) (Fuse s) (fuse s cells a l) in (
      ap read_refusal e,
      ap read_values e ∙ ap (λ (n : ℕ). 1 ∷ s.keys ∷ s.seed ∷ s.segment ∷ s.count ∷ n ∷ []) (sym a.fits.whole),
    )

-- ---- written again

-- nothing stands behind the Positive layout
positive_rest : drop 48 positive_bytes ≡ []
unfolding positive_bytes
positive_rest = refl

-- accepted bytes written again are the same bytes
pub same_again : (bytes : List ℕ) (filter : SstFilter) → read_of bytes ≡ filter → (filter ≡ Refused → ⊥) → bytes_for filter (drop 48 bytes) ≡ bytes
unfolding bytes_for front_of
same_again bytes Positive e n =
    let p = positive_bytes_lem bytes e in
    subst (λ (t : List ℕ). positive_bytes ++ drop 48 t ≡ t) p (ap (λ (t : List ℕ). positive_bytes ++ t) positive_rest ∙ append-nil positive_bytes)
same_again bytes (Fuse s) e n = fuse_bytes bytes s e
same_again bytes Refused e n = absurd (n refl)

-- what was read is acceptable beside its cells
pub read_acceptable : (bytes : List ℕ) (filter : SstFilter) → read_of bytes ≡ filter → (filter ≡ Refused → ⊥) → acceptable filter (length (drop 48 bytes)) ≡ true
unfolding acceptable
read_acceptable bytes Positive e n =
    eq-eqb _ 0 (subst (λ (t : List ℕ). length (drop 48 t) ≡ 0) (positive_bytes_lem bytes e) (ap length positive_rest))
read_acceptable bytes (Fuse s) e n = accepted_fitting s (length (drop 48 bytes)) (cells_accepted bytes s e)
read_acceptable bytes Refused e n = absurd (n refl)

-- and what is acceptable is read from the bytes that are written: 15 exactly for what no reading accepts
pub acceptable_read : (filter : SstFilter) (cells : List ℕ) → ((s : Sizes) → filter ≡ Fuse s → s.seed < 2 ^ 64)
    → acceptable filter (length cells) ≡ true → read_of (bytes_for filter cells) ≡ filter
unfolding acceptable bytes_for front_of
acceptable_read Positive [] w t = ap read_of (append-nil positive_bytes) ∙ layout_reads positive_bytes Positive positive
acceptable_read Positive (x ∷ xs) w t = absurd (omega (arith, eqb-true (suc (length xs)) 0 t))
acceptable_read (Fuse s) cells w t = layout_reads (fuse_header s ++ cells) (Fuse s) (fuse s cells (fitting_accepted s (length cells) t) (w s refl))
acceptable_read Refused cells w t = cc

-- an accepted filter has 48 bytes in front of its cells
accepted_length : (bytes : List ℕ) (filter : SstFilter) → read_of bytes ≡ filter → (filter ≡ Refused → ⊥) → 48 + length (drop 48 bytes) ≡ length bytes
unfolding bytes_for
accepted_length bytes filter e n =
    ap (λ (k : ℕ). k + length (drop 48 bytes)) (sym (front_length filter (length (drop 48 bytes)) (read_acceptable bytes filter e n)))
    ∙ sym (length-append (front_of filter) (drop 48 bytes)) ∙ ap length (same_again bytes filter e n)

-- writing takes accepted bytes again, where there is room, and puts them in front
pub written_again : (bytes : List ℕ) (filter : SstFilter) → read_of bytes ≡ filter → (filter ≡ Refused → ⊥)
    → (out after : List ℕ) (r : Result ℕ Refusal) → length bytes ≤ length out → WritePost filter (drop 48 bytes) out r after
    → (r ≡ Ok (length bytes)) × (after ≡ splice out 0 bytes)
unfolding write_of
written_again bytes filter e n out after r l w =
    let m = accepted_length bytes filter e n in
    let k : write_of filter (drop 48 bytes) (length out) ≡ Ok (length bytes) =
    simp (read_acceptable bytes filter e n, m, le-ltb _ _ l) in (
      w.answer ∙ k,
      w.output ∙ ap (λ (q : Result ℕ Refusal). output_by q filter (drop 48 bytes) out) k ∙ ap (splice out 0) (same_again bytes filter e n),
    )

-- ---- asking gives 15 exactly where reading does

pub ask_refuses : (bytes : List ℕ) (hash : ℕ) → read_refusal (read_of bytes) ≡ 15 → ask_number (ask_of bytes hash) ≡ 15
unfolding ask_of
ask_refuses bytes hash e = ap ask_number (sym (ask_unread (read_of bytes) (drop 48 bytes) hash (unread (read_of bytes) e)))

pub ask_answers : (bytes : List ℕ) (hash : ℕ) → ask_number (ask_of bytes hash) ≡ 15 → read_refusal (read_of bytes) ≡ 15
unfolding ask_of
ask_answers bytes hash a = by_case (read_of bytes) refl
  where
    not_refused : (t : Bool) → ask_number (cond t answer.Maybe answer.Absent) ≡ 15 → ⊥
    not_refused true q = omega arith
    not_refused false q = omega arith

    by_case : (filter : SstFilter) → read_of bytes ≡ filter → read_refusal (read_of bytes) ≡ 15
    by_case Positive e = absurd (not_refused true (ap ask_number (ask_positive (read_of bytes) (drop 48 bytes) hash e) ∙ a))
    by_case (Fuse s) e =
        let f = accepted_fitting s (length (drop 48 bytes)) (cells_accepted bytes s e) in
        absurd
        (not_refused (contains_of (drop 48 bytes) s hash)
        (ap ask_number (ask_fuse (read_of bytes) (drop 48 bytes) hash s e (contains_of (drop 48 bytes) s hash) (sym f) refl) ∙ a))
    by_case Refused e = ap read_refusal e

-- ---- else maybe or absent, by the cells

pub positive_asks : (hash : ℕ) → ask_of positive_bytes hash ≡ answer.Maybe
unfolding ask_of
positive_asks hash =
    ap (λ (f : SstFilter). ask_cells_of f (drop 48 positive_bytes) hash) (layout_reads positive_bytes Positive positive)
    ∙ sym (ask_positive Positive (drop 48 positive_bytes) hash refl)

module _ (s : Sizes) (cells : List ℕ) (a : Accepted s (length cells)) (l : s.seed < 2 ^ 64) (hash : ℕ) where
  pub fuse_asks : ask_of (fuse_header s ++ cells) hash ≡ cond (contains_of cells s hash) answer.Maybe answer.Absent
  unfolding ask_of
  fuse_asks =
      ap (λ (f : SstFilter). ask_cells_of f (drop 48 (fuse_header s ++ cells)) hash) (layout_reads (fuse_header s ++ cells) (Fuse s) (fuse s cells a l))
      ∙ ap (λ (c : List ℕ). ask_cells_of (Fuse s) c hash) (drop_at (fuse_header s) cells 48 (header_length s))
      ∙ sym (ask_fuse (Fuse s) cells hash s refl (contains_of cells s hash) (sym (accepted_fitting s (length cells) a)) refl)

  -- 1 where the four cells of the hash say so, 0 where not
  pub fuse_number : ask_number (ask_of (fuse_header s ++ cells) hash) ≡ cond (contains_of cells s hash) 1 0
  fuse_number = ap ask_number fuse_asks ∙ go (contains_of cells s hash)
    where
      go : (t : Bool) → ask_number (cond t answer.Maybe answer.Absent) ≡ cond {A = ℕ} t 1 0
      go true = refl
      go false = refl

-- and 1 for every hash of a Positive filter
pub positive_number : (hash : ℕ) → ask_number (ask_of positive_bytes hash) ≡ 1
positive_number hash = ap ask_number (positive_asks hash)
