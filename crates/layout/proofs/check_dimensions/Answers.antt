-- `check_dimensions` refuses by 21, test by test. Assumes nothing.
use native.Mathlib.Omega.{arith}
use borrow.Author.Tests.{le-leb, lt-leb, eq-eqb, ne_eqb}
use Rattle.mixing.proofs.SlotLaws.{few_buckets}
use Rattle.layout.specs.Layout.{dimension_refusal}
use Rattle.layout.proofs.check_dimensions.Goals as goal

pub returns-then-n-eq0 : goal.returns-then-n-eq0
unfolding dimension_refusal
returns-then-n-eq0 c = simp (eq-eqb _ _ c.if-n-eq0.true)

pub returns-then-n : goal.returns-then-n
unfolding dimension_refusal
returns-then-n c = simp (ne_eqb _ _ c.if-n-eq0.false, le-leb _ _ c.if-n.true)

pub returns-then-b-buckets : goal.returns-then-b-buckets
unfolding dimension_refusal
returns-then-b-buckets c = rw (ne_eqb _ _ c.if-n-eq0.false, lt-leb _ _ c.if-n.false, ← c.buckets.ensures, ne_eqb _ _ c.if-b-buckets.true)

pub slot_at-requires : goal.slot_at-requires
slot_at-requires c = let few = few_buckets c.args.n in
    let e = c.buckets.ensures in
    (omega arith, omega arith)

pub returns-then-arena-slot_at : goal.returns-then-arena-slot_at
unfolding dimension_refusal
returns-then-arena-slot_at c =
    rw (
      ne_eqb _ _ c.if-n-eq0.false,
      lt-leb _ _ c.if-n.false,
      ← c.buckets.ensures,
      eq-eqb _ _ c.if-b-buckets.false,
      ← c.slot_at.ensures,
      ne_eqb _ _ c.if-arena-slot_at.true,
    )

pub returns : goal.returns
unfolding dimension_refusal
returns c =
    rw (
      ne_eqb _ _ c.if-n-eq0.false,
      lt-leb _ _ c.if-n.false,
      ← c.buckets.ensures,
      eq-eqb _ _ c.if-b-buckets.false,
      ← c.slot_at.ensures,
      eq-eqb _ _ c.if-arena-slot_at.false,
    )
