-- `kiban_get` answers its own check, and then what get answers. Assumes nothing.
use Prim.Native.Nat.{ℕ}
use mathlib.Core.Path.{refl, sym, ap, ◌∙◌}
use mathlib.Core.List.{[], ◌∷◌}
use Rattle.words.specs.Field.{splice}
use Rattle.point.specs.declared.Answer.TheVariants.{Found, Nothing, Refused}
use Rattle.finish.proofs.RowLaws.{splice_none}
use Rattle.kiban_c.proofs.PointCallLaws.{get_refused, get_made}
use Rattle.kiban_c.proofs.point_calls.kiban_get.Goals as goal

pub returns-then-answer-lt4 : goal.returns-then-answer-lt4
returns-then-answer-lt4 c = rw c.number.ensures (get_refused c.if-answer-lt4.true)

pub returns-in-Found : goal.returns-in-Found
returns-in-Found c = let answer = c.args.answer.now in
    let z = c.in-Found in
    let v = z.r in
    get_made {r = Found v} c.if-answer-lt4.false z.ensures c.limit_given.ensures refl
    (c.put_words.ensures ∙ ap (λ (k : ℕ). splice answer 0 (k ∷ v.sequence ∷ v.offset ∷ v.length ∷ [])) c.kind_number.ensures)

pub returns-in-Nothing : goal.returns-in-Nothing
returns-in-Nothing c = get_made {r = Nothing} c.if-answer-lt4.false c.in-Nothing.ensures c.limit_given.ensures refl (sym (splice_none _ 0))

pub returns-in-Refused : goal.returns-in-Refused
returns-in-Refused c = let n = c.in-Refused in
    rw c.number-in-Refused.ensures (get_made {r = Refused n.refusal} c.if-answer-lt4.false n.ensures c.limit_given.ensures refl (sym (splice_none _ 0)))
