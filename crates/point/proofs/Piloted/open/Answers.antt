-- `Piloted::open` refuses by 22. The loop's invariant: what the pilots from `i` on say is what all say. Assumes nothing.
use mathlib.Core.Path.{◌≡◌, sym, ap, ◌∙◌}
use Rattle.layout.specs.Layout.{pilot_at, direct_past}
use Rattle.layout.proofs.HeaderLaws.{headed, buckets_are}
use Rattle.point.proofs.ValidateLaws.{pilots_past, pilots_next, pilots_end}
use native.Mathlib.Omega.{arith}
use Rattle.point.proofs.Piloted.open.Goals as goal

pub u32_at-pilot-requires : goal.u32_at-pilot-requires
u32_at-pilot-requires c = let h = headed _ c.args.headed.passed in omega (arith, buckets_are _ c.args.headed.read)

pub returns-then-direct_past-clause-refuses : goal.returns-then-direct_past-clause-refuses
returns-then-direct_past-clause-refuses c = let l = c.loop-i in
    let e : pilot_at c.args.headed.body.now l.i ≡ c.u32_at-pilot.result = sym c.u32_at-pilot.ensures in
    sym (pilots_past _ _ l.i _ (omega arith) (ap (direct_past _) e ∙ sym c.direct_past.ensures ∙ c.if-direct_past.true)) ∙ l.invariant

pub loop-i-preserved : goal.loop-i-preserved
loop-i-preserved c = let l = c.loop-i in
    let e : pilot_at c.args.headed.body.now l.i ≡ c.u32_at-pilot.result = sym c.u32_at-pilot.ensures in
    sym (pilots_next _ _ l.i _ (omega arith) (ap (direct_past _) e ∙ sym c.direct_past.ensures ∙ c.if-direct_past.false)) ∙ l.invariant

pub invariant_of-result : goal.invariant_of-result
invariant_of-result c = let l = c.loop-i in
    record { checked = record { header = c.args.headed.passed; pilots = sym l.invariant ∙ pilots_end _ _ l.i _ (omega arith) } }
