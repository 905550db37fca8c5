-- `locate` refuses what 20 and 21 refuse, and goes on by the key's hash. Assumes nothing.
use mathlib.Core.Path.{refl, sym}
use Rattle.numbers.proofs.NumberLaws.{number_nonzero}
use Rattle.layout.proofs.HeaderLaws.{seed_is}
use Rattle.point.proofs.GetLaws.{locate_refused, locate_on}
use Rattle.point.proofs.locate.Goals as goal

pub returns-in-Ok : goal.returns-in-Ok
returns-in-Ok c =
    let e = locate_on _ c.args.key.now _ refl (sym c.in-Ok.ensures.refuses) in
    let s = seed_is _ c.in-Ok.headed.read in
    cc (e, s, c.in-Ok.ensures.of_body, c.locate_hash.ensures, c.hash.ensures)

pub returns-in-Err : goal.returns-in-Err
returns-in-Err c = sym (locate_refused _ _ _ c.in-Err.ensures.refuses (number_nonzero _))
