-- `kiban_filter_ask_all` answers its own check, then reading's refusal, and then what each hash is answered. Assumes nothing.
use Prim.Native.Nat.{ℕ}
use native.Mathlib.Omega.{arith}
use mathlib.Core.Path.{sym, ap, ◌∙◌}
use mathlib.Core.List.{List, map}
use Rattle.words.specs.Field.{splice}
use Rattle.filter.proofs.AskLaws.{cells_part}
use Rattle.kiban_c.specs.Inner.Asking.{cells_ask_of}
use Rattle.kiban_c.proofs.FilterCallLaws.{fuse_cells, all_refused, all_unread, all_positive, all_fuse}
use Rattle.kiban_c.proofs.filter_calls.kiban_filter_ask_all.Goals as goal

pub returns-then-answers-hashes : goal.returns-then-answers-hashes
returns-then-answers-hashes c = rw c.number.ensures (all_refused c.if-answers-hashes.true)

pub slice_bounds-ask_each-count : goal.slice_bounds-ask_each-count
slice_bounds-ask_each-count c = let z = c.in-Fuse in
    omega (arith, (fuse_cells c.args.bytes.now z.s (sym z.ensures)).0)

pub slice_bounds-ask_each-start : goal.slice_bounds-ask_each-start
slice_bounds-ask_each-start c = let z = c.in-Fuse in
    omega (arith, (fuse_cells c.args.bytes.now z.s (sym z.ensures)).0)

pub returns-in-Positive : goal.returns-in-Positive
returns-in-Positive c = all_positive c.if-answers-hashes.false _ (sym c.in-Positive.ensures) (c.fill.ensures.after (λ y e. e))

pub returns-in-Fuse : goal.returns-in-Fuse
returns-in-Fuse c = let a = c.args in
    let z = c.in-Fuse in
    let cells = cells_part a.bytes.now in
    all_fuse c.if-answers-hashes.false z.s (sym z.ensures)
    (c.ask_each.ensures ∙ ap (λ (l : List ℕ). splice a.answers.now 0 (map (cells_ask_of z.s l) a.hashes.now)) cells)

pub returns-in-Refused : goal.returns-in-Refused
returns-in-Refused c = rw c.number-in-Refused.ensures (all_unread c.if-answers-hashes.false (sym c.in-Refused.ensures))
