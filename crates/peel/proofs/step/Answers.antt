-- One step of the peeling. Assumes nothing.
use Rattle.std.proofs.Common.{◌≡◌, ℕ, suc, ◌+◌, ◌-◌, ◌^◌, ◌<◌, List, length, get_or, arith, length-set, rules}
use Rattle.peel.specs.Peel.{Attempt}
use Rattle.peel.specs.Inner.Table.{StandsFor}
use Rattle.peel.proofs.PlaceLaws.{whole_small}
use Rattle.peel.proofs.StepLaws.{top_le, ready_empty, cell_under, ready_skip, room_peel, cells_under, narrow_length, room_queue, ready_peel, ready_suc}
use Rattle.peel.proofs.step.Goals as goal

-- what the caller gave, where the queue is not empty
module _ (pos : ℕ → List ℕ) (c : ℕ) (hs : List ℕ) (s : Attempt) (wide narrow : List ℕ) (top n : ℕ) (z : top ≡ 0 → ⊥)
    (S : StandsFor pos c hs s wide narrow top n) where
  given : StandsFor pos c hs s wide narrow (suc (top - 1)) n
  given = ready_suc top z S

  queue_in : c + (top - 1) < length narrow
  queue_in = omega (arith, given.narrow_room, top_le _ _ _ _ _ _ _ _ given)

  -- the cell taken
  cell_in : (get_or narrow (c + (top - 1)) 0 < length narrow) × (get_or narrow (c + (top - 1)) 0 < length wide)
  cell_in =
      let k : get_or narrow (c + (top - 1)) 0 < c = cell_under _ _ _ _ _ _ _ _ given in
      (omega (arith, given.tables.degrees), omega (arith, given.tables.mixes))

  stack_in : get_or narrow (get_or narrow (c + (top - 1)) 0) 0 ≡ 1 → (c + n < length wide) × (c + c + n < length narrow)
  stack_in e =
      let k : n < length hs = room_peel _ _ _ _ _ _ _ _ given e in
      (omega (arith, given.wide_room), omega (arith, given.narrow_room))

pub returns-then-top-eq0 : goal.returns-then-top-eq0
returns-then-top-eq0 c = λ hs s R.
    let k = ready_empty _ _ hs s _ _ _ (rw c.if-top-eq0.true at R) in
    rw k R

pub overflow_add-e : goal.overflow_add-e
overflow_add-e c = omega (arith, queue_in _ _ _ _ _ _ _ _ c.if-top-eq0.false c.requires.2)

pub offset_bounds-narrow-c : goal.offset_bounds-narrow-c
offset_bounds-narrow-c c = omega (arith, queue_in _ _ _ _ _ _ _ _ c.if-top-eq0.false c.requires.2)

pub bounds-narrow-c : goal.bounds-narrow-c
bounds-narrow-c c = queue_in _ _ _ _ _ _ _ _ c.if-top-eq0.false c.requires.2

pub bounds-narrow-p : goal.bounds-narrow-p
bounds-narrow-p c = (cell_in _ _ _ _ _ _ _ _ c.if-top-eq0.false c.requires.2).0

pub returns-then-narrow-p-ne1 : goal.returns-then-narrow-p-ne1
returns-then-narrow-p-ne1 c = λ hs s R. ready_skip _ _ hs s _ _ _ _ (ready_suc c.args.at.top c.if-top-eq0.false R) c.if-narrow-p-ne1.true

pub bounds-wide-p : goal.bounds-wide-p
bounds-wide-p c = (cell_in _ _ _ _ _ _ _ _ c.if-top-eq0.false c.requires.2).1

pub overflow_add-wide : goal.overflow_add-wide
overflow_add-wide c = omega (arith, (stack_in _ _ _ _ _ _ _ _ c.if-top-eq0.false c.requires.2 (omega arith)).0)

pub offset_bounds-wide-c : goal.offset_bounds-wide-c
offset_bounds-wide-c c = omega (arith, (stack_in _ _ _ _ _ _ _ _ c.if-top-eq0.false c.requires.2 (omega arith)).0)

pub bounds-wide-c : goal.bounds-wide-c
bounds-wide-c c = (stack_in _ _ _ _ _ _ _ _ c.if-top-eq0.false c.requires.2 (omega arith)).0

pub overflow_add-narrow-2 : goal.overflow_add-narrow-2
overflow_add-narrow-2 c = omega (arith, (stack_in _ _ _ _ _ _ _ _ c.if-top-eq0.false c.requires.2 (omega arith)).1)

pub offset_bounds-narrow-c-2 : goal.offset_bounds-narrow-c-2
offset_bounds-narrow-c-2 c = omega (arith, (stack_in _ _ _ _ _ _ _ _ c.if-top-eq0.false c.requires.2 (omega arith)).1)

pub bounds-narrow-c-2 : goal.bounds-narrow-c-2
bounds-narrow-c-2 c = (stack_in _ _ _ _ _ _ _ _ c.if-top-eq0.false c.requires.2 (omega arith)).1

pub change-requires : goal.change-requires
change-requires c = let R = given _ _ _ _ _ _ _ _ c.if-top-eq0.false c.requires.2 in
    let u = cells_under _ _ _ _ _ _ _ _ R (omega arith) _ c.positions-four.ensures in (
      (λ v z. u v (let z' = rw length-set at z in omega (arith, R.narrow_room))),
      λ v z. u v (let z' = rw length-set at z in omega (arith, R.wide_room)),
    )

pub queue_cells-u-requires : goal.queue_cells-u-requires
queue_cells-u-requires c = let g = c in
    let R = given _ _ _ _ _ _ _ _ c.if-top-eq0.false c.requires.2 in
    let e : get_or c.args.narrow.now (get_or c.args.narrow.now (c.args.g.cells + (c.args.at.top - 1)) 0) 0 ≡ 1 = omega arith in
    let p = c.positions-four.ensures in
    let small : (v : ℕ) → get_or c.args.narrow.now v 0 < 2 ^ 32 = search rules in
    let k = c.change.ensures in (
      omega (arith, whole_small g.args.g),
      omega (arith, R.narrow_room, narrow_length _ _ _ _ _ _ _ _ R e _ p small _ _ k.0 k.1),
      cells_under _ _ _ _ _ _ _ _ R e _ p,
      room_queue _ _ _ _ _ _ _ _ R e _ p small _ _ k.0 k.1,
    )

pub overflow_add-result : goal.overflow_add-result
overflow_add-result c = omega (arith, (stack_in _ _ _ _ _ _ _ _ c.if-top-eq0.false c.requires.2 (omega arith)).0)

pub returns : goal.returns
returns c = λ hs s R.
    let g = c in
    let small : (v : ℕ) → get_or c.args.narrow.now v 0 < 2 ^ 32 = search rules in
    let k = c.change.ensures in
    ready_peel _ _ hs s _ _ _ _ (ready_suc g.args.at.top c.if-top-eq0.false R) (omega arith) _ c.positions-four.ensures small _ _ k.0 k.1
    _ _ (search rules) c.queue_cells-u.ensures
