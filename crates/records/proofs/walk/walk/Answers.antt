-- `walk` is `walk_from` from the start with no slots: what the walk from here on finds, after the keys passed,
-- is what the whole walk finds. Assumes nothing.
use Prim.Native.Nat.{ℕ, ◌+◌, ◌-◌}
use mathlib.Core.Path.{◌≡◌, refl, sym, ap, ap₂, ◌∙◌}
use native.Mathlib.Omega.{arith}
use Rattle.numbers.proofs.NumberLaws.{number_nonzero}
use Rattle.records.specs.Rules.{unslotted}
use Rattle.numbers.specs.Numbers.{number_of}
use Rattle.records.specs.declared.Walked.{Walked}
use Rattle.records.specs.Walk.{Walk, Finds, end_refusal, walk_from}
use Rattle.records.proofs.RuleLaws.{entered}
use Rattle.records.proofs.WalkLaws.{after, after_more, after_stop, walk_end, walk_stop, walk_on}
use Rattle.records.proofs.walk.walk.Goals as goal

-- what is found where the walk is that one
found : {w : Walked} {k : Walk} → record { keys = w.keys; end = w.end; rule = number_of w.rule } ≡ k → Finds w k
found e = record { keys = ap (λ (x : Walk). x.keys) e; end = ap (λ (x : Walk). x.end) e; rule = ap (λ (x : Walk). x.rule) e }

pub returns-in-Err : goal.returns-in-Err
returns-in-Err c = let a = c.args in
    let l = c.loop-keys in
    found
    (sym (after_stop _ _ _)
    ∙ sym (ap (after l.keys) (walk_stop unslotted a.bytes.now a.test l.prev l.p (a.most - l.keys)
    (omega arith) _ c.in-Err.ensures (number_nonzero _)))
    ∙ l.invariant.1)

pub next_entry-next-requires : goal.next_entry-next-requires
next_entry-next-requires c = let a = c.args in
    let l = c.loop-keys in
    let n = entered unslotted a.bytes.now a.test l.prev l.p (sym c.in_default.ensures) in
    n.next

pub loop-keys-preserved : goal.loop-keys-preserved
loop-keys-preserved c = let a = c.args in
    let l = c.loop-keys in
    let e = sym c.in_default.ensures in
    let n = entered unslotted a.bytes.now a.test l.prev l.p e in
    let d : a.most - l.keys - 1 ≡ a.most - (l.keys + 1) = omega arith in
    let w = walk_on unslotted a.bytes.now a.test l.prev l.p (a.most - l.keys) (omega arith) _ e c.next_entry-next.ensures in (
      record { here = omega (arith, c.next_entry-next.ensures); before = λ _. n.key.whole },
      sym (after_more l.keys _ ∙ ap (λ (k : ℕ). after (l.keys + 1) (walk_from unslotted a.bytes.now a.test l.p c.next_entry-next.result k)) d)
          ∙ sym (ap (after l.keys) w) ∙ l.invariant.1,
    )

pub returns : goal.returns
returns c = let a = c.args in
    let l = c.loop-keys in
    let all : a.most ≡ l.keys = omega (arith, l.auto.keys-end) in
    let r : number_of c.check_end.result ≡ end_refusal a.bytes.now l.p = c.check_end.ensures in
    found
    (ap₂ (λ (k r : ℕ). record { keys = k; end = l.p; rule = r }) all r
    ∙ sym (after_stop _ _ _)
    ∙ sym (ap (after l.keys) (walk_end unslotted a.bytes.now a.test l.prev l.p (a.most - l.keys) _ (omega arith) refl))
    ∙ l.invariant.1)
