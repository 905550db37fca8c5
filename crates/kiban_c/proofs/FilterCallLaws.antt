-- What the boundary's checks leave of the calls of the filter; what stands in front of the answers while they are asked. Assumes nothing.
use Rattle.numbers.specs.declared.Refusal.{Refusal}
use Rattle.std.specs.Prelude.{Result}
use Rattle.std.specs.Prelude.{Ok}
use Rattle.numbers.specs.Numbers.{number_of}
use mathlib.Core.Path.{◌≡◌, refl, sym, ap, ap₂, ◌∙◌}
use mathlib.Core.List.{List, [], ◌∷◌, ◌++◌, map}
use Prim.Native.Nat.{ℕ, ◌+◌, ◌-◌, ◌*◌, ◌^◌, ◌≤◌, ◌<◌}
use native.Mathlib.Omega.{arith}
use lib.ListN.{length, get_or, set, take, drop, replicate, length-map, get_or-map}
use lib.Seq.{length-take-le}
use Rattle.words.specs.Field.{splice}
use Rattle.words.proofs.Pasted.{Pasting, pasting_more}
use Rattle.fuse.specs.declared.Sizes.{Sizes}
use Rattle.fuse.specs.Positions.{cells_in}
use Rattle.fuse.proofs.FitLaws.{cells_some}
use Rattle.filter.specs.declared.SstFilter.{SstFilter}
use Rattle.filter.specs.declared.SstFilter.TheVariants.{Positive, Fuse, Refused}
use Rattle.filter.specs.declared.Built.{Built}
use Rattle.filter.specs.declared.Built.TheVariants as built
use Rattle.filter.specs.Reading.{read_of, read_refusal, read_values}
use Rattle.filter.specs.Asking.{ask_cells_of, ask_of, ask_number}
use Rattle.filter.specs.Building.{BuildPost, built_values}
use Rattle.filter.proofs.ReadLaws.{fuse_accepted}
use Rattle.filter.proofs.AskLaws.{ask_positive}
use Rattle.filter.proofs.BuiltLaws.{built_usable}
use Rattle.finish.proofs.RowLaws.{splice_none}
use Rattle.kiban_c.specs.FilterCalls.{FilterBuildCall, FilterReadCall, filter_ask_of, ask_all_values, FilterAskAllCall}
use Rattle.kiban_c.specs.Inner.Asking.{cells_ask_of}
use Rattle.kiban_c.proofs.LentLaws.{first_number, first_left, none_number, none_left, short, enough}

-- ---- building

module _ {hashes wide narrow out answer : List ℕ} where
  pub build_refused : length answer < 1 → FilterBuildCall hashes wide narrow out answer 6 hashes wide narrow out answer
  build_refused h =
      let f = short answer 1 h in
      let p : 0 < 6 = omega arith in
      record {
        number = first_number f p _;
        hashes_after = first_left f p _ _;
        wide_after = first_left f p _ _;
        narrow_after = first_left f p _ _;
        out_after_is = first_left f p _ _;
        answer_after = first_left f p _ _;
      }

  pub build_made : {given r : Result Built Refusal} {hashes' wide' narrow' out' answer' : List ℕ} → 1 ≤ length answer → BuildPost hashes wide narrow out given hashes' wide' narrow' out' → given ≡ r
      → answer' ≡ splice answer 0 (built_values r) → FilterBuildCall hashes wide narrow out answer (number_of r) hashes' wide' narrow' out' answer'
  build_made h p g av =
      let c = enough answer 1 h in
      let e = sym g ∙ p.answer in
      record {
        number = ap number_of e ∙ none_number c _;
        hashes_after = p.hashes_after ∙ none_left c _ _;
        wide_after = p.wide_after ∙ none_left c _ _;
        narrow_after = p.narrow_after ∙ none_left c _ _;
        out_after_is = p.out_after_is ∙ none_left c _ _;
        answer_after = av ∙ ap (λ (z : Result Built Refusal). splice answer 0 (built_values z)) e ∙ none_left c _ _;
      }

-- the cells of what was built are few
pub cells_small : {hashes wide narrow out : List ℕ} {r : Result Built Refusal} {hashes' wide' narrow' out' : List ℕ} → BuildPost hashes wide narrow out r hashes' wide' narrow' out' → (s : Sizes) → r ≡ Ok (built.Fuse s)
    → (s.count + 3) * s.segment < 2 ^ 32
cells_small p s e = (built_usable p s e).small

-- ---- reading

module _ {bytes answer : List ℕ} where
  pub read_refused : length answer < 6 → FilterReadCall bytes answer 6 answer
  read_refused h =
      let f = short answer 6 h in
      record { number = first_number f (omega arith) _; answer_after = first_left f (omega arith) _ _ }

  pub read_made : {given r : SstFilter} {answer' : List ℕ} → 6 ≤ length answer → given ≡ read_of bytes → given ≡ r → answer' ≡ splice answer 0 (read_values r)
      → FilterReadCall bytes answer (read_refusal r) answer'
  read_made h p g av =
      let c = enough answer 6 h in
      let e = sym g ∙ p in
      record { number = ap read_refusal e ∙ none_number c _; answer_after = av ∙ ap (λ (z : SstFilter). splice answer 0 (read_values z)) e ∙ none_left c _ _ }

-- a Fuse filter's bytes past the header are its cells
pub fuse_cells : (bytes : List ℕ) (s : Sizes) → read_of bytes ≡ Fuse s → (48 ≤ length bytes) × (length bytes - 48 ≡ cells_in s.segment s.count)
fuse_cells bytes s e =
    let a = fuse_accepted bytes s e in
    let w = a.fits.whole in
    (omega (arith, w, (cells_some s.segment s.count a.fits.usable).0), w)

-- ---- asking for each hash

-- an answer more
pub each_more : (f : ℕ → ℕ) (hashes : List ℕ) {answers : List ℕ} {i : ℕ} {after : List ℕ} → Pasting answers 0 (map f hashes) i after
    → (v : ℕ) → i < length hashes → v ≡ f (get_or hashes i 0) → Pasting answers 0 (map f hashes) (i + 1) (set after i v)
each_more f hashes {answers} {i} p v h e =
    pasting_more p (f 0) i v (omega (arith, h, length-map hashes f)) (omega arith) (e ∙ sym (get_or-map f hashes i 0))

-- ---- asking for all

-- a Positive filter answers 1 for every hash
positive_ones : (bytes hashes : List ℕ) → read_of bytes ≡ Positive → map (filter_ask_of bytes) hashes ≡ replicate (length hashes) 1
unfolding ask_of
positive_ones bytes [] e = refl
positive_ones bytes (h ∷ hs) e = ap₂ ◌∷◌ (ap ask_number (sym (ask_positive (read_of bytes) (drop 48 bytes) h e))) (positive_ones bytes hs e)

-- a Fuse filter answers what its sizes answer beside its cells
fuse_each : (bytes hashes : List ℕ) (s : Sizes) → read_of bytes ≡ Fuse s → map (filter_ask_of bytes) hashes ≡ map (cells_ask_of s (drop 48 bytes)) hashes
unfolding ask_of
fuse_each bytes hashes s e = ap (λ (f : SstFilter). map (λ (h : ℕ). ask_number (ask_cells_of f (drop 48 bytes) h)) hashes) e

module _ {bytes hashes answers : List ℕ} where
  pub all_refused : length answers < length hashes → FilterAskAllCall bytes hashes answers 6 answers
  all_refused h =
      let f = short answers (length hashes) h in
      record { number = first_number f (omega arith) _; answers_after = first_left f (omega arith) _ _ }

  module _ (h : length hashes ≤ length answers) where
    all_made : (r : SstFilter) {answers' : List ℕ} → read_of bytes ≡ r → answers' ≡ splice answers 0 (ask_all_values r bytes hashes) → FilterAskAllCall bytes hashes answers (read_refusal r) answers'
    all_made r e av =
        let c = enough answers (length hashes) h in
        record {
          number = ap read_refusal (sym e) ∙ none_number c _;
          answers_after = av ∙ ap (λ (z : SstFilter). splice answers 0 (ask_all_values z bytes hashes)) (sym e) ∙ none_left c _ _;
        }

    pub all_unread : read_of bytes ≡ Refused → FilterAskAllCall bytes hashes answers 15 answers
    all_unread e = all_made Refused e (sym (splice_none answers 0))

    pub all_positive : (front : List ℕ) → read_of bytes ≡ Positive → front ≡ replicate (length (take (length hashes) answers)) 1 → FilterAskAllCall bytes hashes answers 0 (front ++ drop (length hashes) answers)
    unfolding splice
    all_positive front e f =
        let ones = f ∙ ap (λ (n : ℕ). replicate n 1) (length-take-le (length hashes) answers h) ∙ sym (positive_ones bytes hashes e) in
        let past : length hashes ≡ 0 + length (map (filter_ask_of bytes) hashes) = omega (arith, length-map hashes (filter_ask_of bytes)) in
        all_made Positive e (ap₂ (λ (l : List ℕ) (n : ℕ). l ++ drop n answers) ones past)

    pub all_fuse : (s : Sizes) {answers' : List ℕ} → read_of bytes ≡ Fuse s → answers' ≡ splice answers 0 (map (cells_ask_of s (drop 48 bytes)) hashes) → FilterAskAllCall bytes hashes answers 0 answers'
    all_fuse s e av = all_made (Fuse s) e (av ∙ ap (splice answers 0) (sym (fuse_each bytes hashes s e)))
