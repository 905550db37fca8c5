-- What the boundary's check leaves of a call of listing. Assumes nothing.
use Rattle.std.specs.Prelude.{Result}
use Rattle.numbers.specs.Numbers.{number_of}
use Rattle.numbers.specs.declared.Refusal.{Refusal}
use Prim.Native.Nat.{ℕ, ◌<◌, ◌≤◌}
use native.Mathlib.Omega.{arith}
use mathlib.Core.Path.{◌≡◌, sym, ap, ◌∙◌}
use mathlib.Core.List.{List}
use lib.ListN.{length}
use Rattle.words.specs.Field.{splice}
use Rattle.lines.specs.Shown.{newest_tombstone}
use Rattle.lines.specs.Listing.{Listing, listed_values}
use Rattle.kiban_c.specs.LinesCalls.{ListingCall}
use Rattle.kiban_c.proofs.LentLaws.{first_number, first_left, none_number, none_left, short, enough}

module _ {input out answer : List ℕ} where
  pub listing_refused : length answer < 1 → ListingCall input out answer 6 out answer
  listing_refused h =
      let f = short answer 1 h in
      let p : 0 < 6 = omega arith in
      record { number = first_number f p _; out_after_is = first_left f p _ _; answer_after = first_left f p _ _ }

  pub listing_made : {given r : Result ℕ Refusal} {out' answer' : List ℕ} → 1 ≤ length answer → Listing newest_tombstone input out given out' → given ≡ r
      → answer' ≡ splice answer 0 (listed_values r) → ListingCall input out answer (number_of r) out' answer'
  listing_made h p g av =
      let c = enough answer 1 h in
      let e = sym g ∙ p.answer in
      record {
        number = ap number_of e ∙ none_number c _;
        out_after_is = p.buffer ∙ none_left c _ _;
        answer_after = av ∙ ap (λ (z : Result ℕ Refusal). splice answer 0 (listed_values z)) e ∙ none_left c _ _;
      }
