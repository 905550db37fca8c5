-- `open_record` reads the record's head, and compares its key, as `open_record_of` says. Assumes nothing.
use mathlib.Core.Path.{sym, ap, ◌∙◌}
use mathlib.Core.List.{List}
use Prim.Native.Nat.{ℕ}
use Rattle.words.specs.Part.{same_as}
use Rattle.records.proofs.CursorLaws.{head_read}
use Rattle.point.proofs.GetLaws.{record_head}
use Rattle.point.proofs.open_record.Goals as goal

pub key_at-requires : goal.key_at-requires
key_at-requires c = head_read _ _ _ (sym c.in-Some.ensures)

pub returns-then-same : goal.returns-then-same
returns-then-same c = let a = c.args in
    let s = ap (λ (k : List ℕ). same_as k a.key.now) (sym c.key_at.ensures) ∙ sym c.same.ensures ∙ c.if-same.true in
    sym (record_head a.body.now a.key.now a.place _ (sym c.in-Some.ensures) ∙ rw s)

pub returns : goal.returns
returns c = let a = c.args in
    let s = ap (λ (k : List ℕ). same_as k a.key.now) (sym c.key_at.ensures) ∙ sym c.same.ensures ∙ c.if-same.false in
    sym (record_head a.body.now a.key.now a.place _ (sym c.in-Some.ensures) ∙ rw s)

pub returns-in_default : goal.returns-in_default
returns-in_default c = sym (record_head _ _ _ _ (sym c.head_at.ensures ∙ c.in_default.is))
