-- `write_pilots` meets its contract. The loop's invariant: the first i pilots are written. Assumes nothing.
use Prim.Native.Nat.{ℕ, ◌+◌, ◌*◌, ◌≤◌, ◌<◌}
use native.Mathlib.Omega.{arith}
use mathlib.Core.Path.{sym, ap, ◌∙◌}
use mathlib.Core.List.{List, flat_map}
use lib.ListN.{length, get_or}
use lib.Seq.{take_all}
use Rattle.words.specs.Field.{bytes_of, splice}
use Rattle.words.proofs.Laws.{length_bytes_of}
use Rattle.finish.specs.Body.{pilots_bytes}
use Rattle.finish.proofs.RowLaws.{row_none, row_more}
use Rattle.finish.proofs.body.write_pilots.Goals as goal

pub loop-i-init : goal.loop-i-init
loop-i-init c = let a = c.args in sym (row_none (bytes_of 4) a.out.now a.at a.pilots.now)

pub loop-i-preserved : goal.loop-i-preserved
loop-i-preserved c = let l = c.loop-i in
    let a = c.args in
    let low : l.i < length a.pilots.now = omega arith in
    let room : a.at + 4 * l.i ≤ length a.out.now = omega arith in
    c.put_u32.ensures
    ∙ ap (λ (z : List ℕ). splice z (a.at + 4 * l.i) (bytes_of 4 (get_or a.pilots.now l.i 0))) l.invariant
    ∙ row_more (bytes_of 4) 4 (length_bytes_of 4) a.out.now a.at a.pilots.now l.i low room

pub returns : goal.returns
unfolding pilots_bytes
returns c = let l = c.loop-i in
    let a = c.args in
    let whole : length a.pilots.now ≤ l.i = omega arith in
    l.invariant ∙ ap (λ (z : List ℕ). splice a.out.now a.at (flat_map (bytes_of 4) z)) (take_all l.i a.pilots.now whole)
