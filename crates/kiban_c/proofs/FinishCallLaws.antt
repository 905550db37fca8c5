-- What the boundary's check leaves of a call of finish. Assumes nothing.
use Rattle.std.specs.Prelude.{Result}
use Rattle.numbers.specs.Numbers.{number_of}
use Rattle.numbers.specs.declared.Refusal.{Refusal}
use Prim.Native.Nat.{ℕ, ◌<◌, ◌≤◌}
use native.Mathlib.Omega.{arith}
use mathlib.Core.Path.{◌≡◌, sym, ap, ◌∙◌}
use mathlib.Core.List.{List}
use lib.ListN.{length}
use Rattle.words.specs.Field.{splice}
use Rattle.finish.specs.Finish.{FinishPost, finished_values}
use Rattle.kiban_c.specs.FinishCalls.{FinishCall}
use Rattle.kiban_c.proofs.LentLaws.{first_number, first_left, none_number, none_left, short, enough}

module _ {arena out wide narrow answer : List ℕ} where
  pub finish_refused : length answer < 1 → FinishCall arena out wide narrow answer 6 out wide narrow answer
  finish_refused h =
      let f = short answer 1 h in
      let p : 0 < 6 = omega arith in
      record {
        number = first_number f p _;
        out_after_is = first_left f p _ _;
        wide_after = first_left f p _ _;
        narrow_after = first_left f p _ _;
        answer_after = first_left f p _ _;
      }

  pub finish_made : {given r : Result ℕ Refusal} {out' wide' narrow' answer' : List ℕ} → 1 ≤ length answer → FinishPost arena out wide narrow given out' wide' narrow' → given ≡ r
      → answer' ≡ splice answer 0 (finished_values r) → FinishCall arena out wide narrow answer (number_of r) out' wide' narrow' answer'
  finish_made h p g av =
      let c = enough answer 1 h in
      let e = sym g ∙ p.answer in
      record {
        number = ap number_of e ∙ none_number c _;
        out_after_is = p.out_after_is ∙ none_left c _ _;
        wide_after = p.wide_after ∙ none_left c _ _;
        narrow_after = p.narrow_after ∙ none_left c _ _;
        answer_after = av ∙ ap (λ (z : Result ℕ Refusal). splice answer 0 (finished_values z)) e ∙ none_left c _ _;
      }
