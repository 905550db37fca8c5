-- `kiban_listing` answers its own check, and then what listing answers. Assumes nothing.
use Rattle.std.specs.Prelude.{Result, Err, Ok}
use Prim.Native.Nat.{ℕ}
use mathlib.Core.Path.{◌≡◌, refl, ap, ◌∙◌}
use Rattle.numbers.specs.declared.Refusal.{Refusal}
use Rattle.words.specs.Field.{splice}
use Rattle.finish.specs.Finish.{finished_values}
use Rattle.lines.specs.Listing.{listed_values}
use Rattle.kiban_c.proofs.LinesCallLaws.{listing_refused, listing_made}
use Rattle.kiban_c.proofs.lines_calls.kiban_listing.Goals as goal

pub returns-then-answer-lt1 : goal.returns-then-answer-lt1
returns-then-answer-lt1 c = rw c.number.ensures (listing_refused c.if-answer-lt1.true)

-- both put a size alone
one_value : (r : Result ℕ Refusal) → finished_values r ≡ listed_values r
one_value (Ok size) = refl
one_value (Err refusal) = refl

pub returns : goal.returns
returns c = let e = c.put_size.ensures in
    rw e.0 (listing_made c.if-answer-lt1.false c.listing.ensures refl (e.1 ∙ ap (splice c.args.answer.now 0) (one_value c.listing.result)))
