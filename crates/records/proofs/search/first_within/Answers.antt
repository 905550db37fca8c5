-- `first_within` is `first_within`: the search from here on, up to the limit's number, finds what the whole one finds. Assumes nothing.
use Rattle.std.specs.Prelude.{Some}
use Prim.Native.Nat.{ℕ}
use mathlib.Core.List.{List}
use mathlib.Core.Path.{◌≡◌, refl, sym, ap, ◌∙◌}
use native.Mathlib.Omega.{arith}
use borrow.Author.Tests.{le-leb, lt-leb}
use Rattle.words.specs.Field.{AllBytes}
use Rattle.records.specs.Limits.{Limit}
use Rattle.records.specs.Model.{limit_of, within}
use Rattle.records.specs.Within.{first_within}
use Rattle.records.proofs.CursorLaws.{version_read}
use Rattle.records.proofs.SearchLaws.{search_end, search_unread, search_found, search_on}
use Rattle.records.proofs.WithinLaws.{first_limit}
use borrow.Author.Rules.{rules}
use Rattle.records.proofs.search.first_within.Goals as goal

-- the limit's number serves for the limit
whole : (bytes : List ℕ) (limit : Limit) (p count most : ℕ) → most ≡ limit_of limit → AllBytes bytes
    → first_within bytes (Some most) p count ≡ first_within bytes limit p count
whole bytes limit p count most m b = ap (λ (n : ℕ). first_within bytes (Some n) p count) m ∙ sym (first_limit bytes limit p count b)

pub returns-then-version-most : goal.returns-then-version-most
unfolding within
returns-then-version-most c = let l = c.loop in
    search_found _ _ l.at _ (omega arith) _ c.in-Some.ensures _ refl (le-leb _ _ c.if-version-most.true)
    ∙ l.invariant
    ∙ whole _ _ _ _ _ c.limit_number-most.ensures (λ i. (c.type_inv.bytes i).fits)

pub returns-in_default : goal.returns-in_default
returns-in_default c = let l = c.loop in
    search_unread _ _ l.at _ (omega arith) _ c.version_at.ensures c.in_default.is
    ∙ l.invariant
    ∙ whole _ _ _ _ _ c.limit_number-most.ensures (λ i. (c.type_inv.bytes i).fits)

pub overflow_add-at : goal.overflow_add-at
overflow_add-at c = let r = version_read _ _ _ (sym c.in-Some.ensures) in
    search rules

pub loop-preserved : goal.loop-preserved
unfolding within
loop-preserved c = let l = c.loop in
    ap (first_within _ _ _) (omega arith)
    ∙ sym (search_on _ _ l.at _ (omega arith) _ c.in-Some.ensures _ refl (lt-leb _ _ c.if-version-most.false))
    ∙ l.invariant

pub returns : goal.returns
returns c = let l = c.loop in
    search_end _ _ l.at _ (omega arith) ∙ l.invariant ∙ whole _ _ _ _ _ c.limit_number-most.ensures (λ i. (c.type_inv.bytes i).fits)
