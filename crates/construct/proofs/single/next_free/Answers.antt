-- `construct::single::next_free` meets its contract. The slots from `from` on are looked at in order. Assumes nothing.
use borrow.Author.Rules.{rules}
use borrow.Author.Tests.{tests}
use mathlib.Core.Path.{◌≡◌, ◌∙◌}
use Rattle.std.proofs.lemmas.Iterator.{IsFirst-from_position, YieldsList-from_slice}
use Rattle.construct.proofs.StepLaws.{ahead, next_lowest}
use Rattle.construct.proofs.single.next_free.Goals as goal

pub returns-in_err-ahead : goal.returns-in_err-ahead
returns-in_err-ahead c =
    let all = YieldsList-from_slice _ (c.iter.ensures.rest ∙ ahead _ _ c.requires) in
    rw c.from_residual.ensures
    (rw c.in_err-ahead.was at (next_lowest _ _ c.requires _ (IsFirst-from_position _ _ _ (λ x. x ≡ 0) (λ x. x ≡ 0 → ⊥) c.position.ensures.ran all (λ x q k. search (rules, tests)) (λ x q k. search (rules, tests)))))

pub returns : goal.returns
returns c =
    let all = YieldsList-from_slice _ (c.iter.ensures.rest ∙ ahead _ _ c.requires) in
    rw c.in_ok-ahead.was at (next_lowest _ _ c.requires _ (IsFirst-from_position _ _ _ (λ x. x ≡ 0) (λ x. x ≡ 0 → ⊥) c.position.ensures.ran all (λ x q k. search (rules, tests)) (λ x q k. search (rules, tests))))
