-- `kiban_filter_read` answers its own check, and then what read answers. Assumes nothing.
use Prim.Native.Nat.{ℕ}
use native.Mathlib.Omega.{arith}
use mathlib.Core.Path.{refl, sym, ap, ◌∙◌}
use mathlib.Core.List.{[], ◌∷◌}
use Rattle.words.specs.Field.{splice}
use Rattle.filter.specs.declared.SstFilter.TheVariants.{Positive, Fuse, Refused}
use Rattle.finish.proofs.RowLaws.{splice_none}
use Rattle.kiban_c.proofs.FilterCallLaws.{read_refused, read_made, fuse_cells}
use Rattle.kiban_c.proofs.filter_calls.kiban_filter_read.Goals as goal

pub overflow_sub-cells : goal.overflow_sub-cells
overflow_sub-cells c = let z = c.in-Fuse in
    omega (arith, (fuse_cells c.args.bytes.now z.s (sym z.ensures)).0)

pub returns-then-answer-lt6 : goal.returns-then-answer-lt6
returns-then-answer-lt6 c = rw c.number.ensures (read_refused c.if-answer-lt6.true)

pub returns-in-Positive : goal.returns-in-Positive
returns-in-Positive c = read_made {r = Positive} (omega arith) c.in-Positive.ensures refl c.put_words.ensures

pub returns-in-Fuse : goal.returns-in-Fuse
returns-in-Fuse c = let a = c.args in
    let z = c.in-Fuse in
    let s = z.s in
    let cells = (fuse_cells a.bytes.now s (sym z.ensures)).1 in
    read_made {r = Fuse s} (omega arith) z.ensures refl
    (c.put_words-in-Fuse.ensures ∙ ap (λ (n : ℕ). splice a.answer.now 0 (1 ∷ s.keys ∷ s.seed ∷ s.segment ∷ s.count ∷ n ∷ [])) cells)

pub returns-in-Refused : goal.returns-in-Refused
returns-in-Refused c = rw c.number-in-Refused.ensures (read_made {r = Refused} (omega arith) c.in-Refused.ensures refl (sym (splice_none _ 0)))
