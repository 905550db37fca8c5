-- What the boundary's check leaves of a call of get. Assumes nothing.
use Prim.Native.Nat.{ℕ, ◌<◌, ◌≤◌}
use native.Mathlib.Omega.{arith}
use mathlib.Core.Path.{◌≡◌, sym, ap, ◌∙◌}
use mathlib.Core.List.{List}
use lib.ListN.{length}
use Rattle.words.specs.Field.{splice}
use Rattle.records.specs.Limits.{Limit}
use Rattle.point.specs.declared.Answer.{Answer}
use Rattle.point.specs.Get.{get_of, answer_number, answer_values}
use Rattle.kiban_c.specs.PointCalls.{limit_given, GetCall}
use Rattle.kiban_c.proofs.LentLaws.{first_number, first_left, none_number, none_left, short, enough}

module _ {body bytes key : List ℕ} {limited limit : ℕ} {answer : List ℕ} where
  pub get_refused : length answer < 4 → GetCall body bytes key limited limit answer 6 answer
  get_refused h =
      let f = short answer 4 h in
      record { number = first_number f (omega arith) _; answer_after = first_left f (omega arith) _ _ }

  pub get_made : {l : Limit} {given r : Answer} {answer' : List ℕ} → 4 ≤ length answer → given ≡ get_of body (length bytes) key l → l ≡ limit_given limited limit → given ≡ r
      → answer' ≡ splice answer 0 (answer_values r) → GetCall body bytes key limited limit answer (answer_number r) answer'
  get_made h p le g av =
      let c = enough answer 4 h in
      let e = sym g ∙ p ∙ ap (get_of body (length bytes) key) le in
      record { number = ap answer_number e ∙ none_number c _; answer_after = av ∙ ap (λ (z : Answer). splice answer 0 (answer_values z)) e ∙ none_left c _ _ }
