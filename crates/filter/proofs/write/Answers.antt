-- `filter::write` meets its contract.
use mathlib.Core.Path.{sym, ap, ◌∙◌}
use mathlib.Core.List.{List}
use Prim.Native.Nat.{ℕ}
use native.Mathlib.Omega.{arith}
use Rattle.words.specs.Field.{splice}
use Rattle.filter.proofs.WriteLaws.{whole_post}
use Rattle.filter.proofs.write.Goals as goal

pub returns : goal.returns
returns c = let a = c.args in
    whole_post a.filter a.cells.now a.out.now _ (sym c.is_acceptable.ensures ∙ c.if-not-is_acceptable.false) (omega arith)
    (c.copy_at.ensures ∙ ap (λ (t : List ℕ). splice t 48 a.cells.now) c.put_front.ensures)
