-- `put_lines` writes the lines of the table. The loop's invariant: the lines from here on, with those written, are the whole.
-- Assumes nothing.
use Prim.Native.Nat.{◌+◌, ◌-◌}
use mathlib.Core.Path.{◌≡◌, ap}
use native.Mathlib.Omega.{arith}
use Rattle.layout.specs.declared.Header.{Header}
use Rattle.records.proofs.StandsLaws.{stands_here}
use Rattle.point.specs.Table.{table_of}
use Rattle.lines.specs.Inner.Limited.{Limited}
use Rattle.lines.proofs.LinesLaws.{going_start, going_room, going_count, going_on, going_end}
use Rattle.lines.proofs.Table.put_lines.Goals as goal

pub loop-init : goal.loop-init
loop-init c =
    let b = ap (λ (a : Limited). a.body) c.self.view_is in
    let a = ap (λ (h : Header). h.arena) c.read-header.ensures in
    let k = ap (λ (h : Header). h.keys) c.read-header.ensures in
    going_start _ _ _ _ _ (rw b at a) (omega (arith, rw b at k)) (rw b at c.self.invariant) c.requires

pub put_entry-shown-requires : goal.put_entry-shown-requires
unfolding table_of
put_entry-shown-requires c =
    let l = ap (λ (a : Limited). a.limit) c.self.view_is in
    let b = ap (λ (a : Limited). a.body) c.self.view_is in
    rw (l, b) (stands_here (omega arith) c.loop.invariant.stand, going_room c.loop.invariant (omega arith))

pub overflow_add-shown : goal.overflow_add-shown
overflow_add-shown c =
    let l = ap (λ (a : Limited). a.limit) c.self.view_is in
    let b = ap (λ (a : Limited). a.body) c.self.view_is in
    let k = ap (λ (h : Header). h.keys) c.read-header.ensures in
    omega
    (arith, going_count c.loop.invariant (omega arith) (omega (arith, rw b at k)), (rw (l, b) at c.put_entry-shown.ensures).counted)

pub next_entry-p-requires : goal.next_entry-p-requires
next_entry-p-requires c =
    let b = ap (λ (a : Limited). a.body) c.self.view_is in
    rw b (stands_here (omega arith) c.loop.invariant.stand).next

pub loop-preserved : goal.loop-preserved
loop-preserved c =
    let l = ap (λ (a : Limited). a.limit) c.self.view_is in
    let b = ap (λ (a : Limited). a.body) c.self.view_is in
    let n = c.read-header.result.keys in
    let d : n - (c.loop.counter + 1) ≡ n - c.loop.counter - 1 = omega arith in
    rw d (going_on c.loop.invariant (omega arith) _ _ _ (rw (l, b) at c.put_entry-shown.ensures) (rw b at c.next_entry-p.ensures))

pub returns : goal.returns
returns c = going_end c.loop.invariant (omega arith)
