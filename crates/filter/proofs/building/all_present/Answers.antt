-- The closing membership check: where it fails, one of the hashes is missing. Assumes nothing.
use mathlib.Core.Path.{◌≡◌}
use mathlib.Core.Bool.{true, false}
use lib.ListN.{get_or}
use Rattle.std.proofs.lemmas.Bool.{MatchBool-at_false}
use Rattle.std.proofs.lemmas.Iterator.{YieldsList-from_slice, cases_from_all}
use Rattle.laws.proofs.CountLaws.{occurs_at}
use Rattle.fuse.specs.Asking.{contains_of}
use borrow.Author.Rules.{rules}
use borrow.Author.Tests.{tests}
use Rattle.filter.proofs.building.all_present.Goals as goal

pub returns : goal.returns
returns c = λ e.
    let a = c.args in
    let m = MatchBool-at_false _ _ e
    (cases_from_all _ _ _ (λ x. contains_of a.cells.now a.s x ≡ true) (λ x. contains_of a.cells.now a.s x ≡ false) c.all.ensures.ran
    (YieldsList-from_slice a.hashes.now cc) (λ x q k. search (rules, tests)) (λ x q k. search (rules, tests))) in
    record { hash = get_or a.hashes.now m.0 0; given = occurs_at a.hashes.now m.0 m.1; absent = m.2 0 }
