-- One attempt. Assumes nothing.
use Rattle.std.proofs.Common.{ℕ, replicate, ap, ◌∙◌, arith, rules}
use lib.ListN.{length-map}
use Rattle.fuse.specs.Asking.{graph_hash}
use Rattle.peel.specs.Peel.{fill}
use Rattle.peel.specs.Inner.Table.{cells_of, peels_in}
use Rattle.peel.proofs.StepLaws.{peeled_below}
use Rattle.peel.proofs.AttemptLaws.{peeled_fits, attempt_short, attempt_whole}
use Rattle.peel.proofs.attempt.Goals as goal

pub returns-then-n-hashes : goal.returns-then-n-hashes
returns-then-n-hashes c = let s = c in
    let a = s.args in
    attempt_short a.g a.hashes.now a.cells.now _ _ _ _ c.peel_hashes-n.ensures.1 c.if-n-hashes.true

pub fill-requires-2-clause-room : goal.fill-requires-2-clause-room
fill-requires-2-clause-room c = let s = c in
    let a = s.args in
    let R = c.peel_hashes-n.ensures.1 in
    let m = length-map a.hashes.now (graph_hash a.g.seed) in
    let n = peeled_fits a.g a.hashes.now a.cells.now _ _ _ _ R in
    (search rules, omega (arith, R.wide_room), omega (arith, R.narrow_room))

pub fill-requires-2-clause-by_index : goal.fill-requires-2-clause-by_index
fill-requires-2-clause-by_index c = peeled_below _ _ _ _ _ _ _ _ c.peel_hashes-n.ensures.1

pub returns : goal.returns
returns c = let s = c in
    let a = s.args in
    let h = c.peel_hashes-n in
    attempt_whole a.g a.hashes.now a.cells.now _ _ _ _ h.ensures.1 c.if-n-hashes.false _
    (c.fill-2.ensures
    ∙ ap (fill (cells_of a.g) (peels_in a.g.cells h.result h.new.wide h.new.narrow))
    (c.fill.ensures.after (λ y e. e) ∙ ap (λ (k : ℕ). replicate k 0) s.requires.3))
