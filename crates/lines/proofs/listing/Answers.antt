-- `listing` lists the refusal of the input, or its body. Assumes nothing.
use mathlib.Core.Path.{sym}
use native.Mathlib.Omega.{arith}
use borrow.Author.Rules.{rules}
use Rattle.numbers.specs.Numbers.{number}
use Rattle.numbers.proofs.NumberLaws.{number_nonzero}
use Rattle.lines.specs.Listing.{refused_text}
use Rattle.lines.proofs.InputLaws.{unrefused, listable_long, listable_stands, listable_ends, refused_listing, table_listing}
use Rattle.lines.proofs.TextLaws.{refused_ends}
use Rattle.lines.proofs.CauseLaws.{refusal_low}
use Rattle.lines.proofs.listing.Goals as goal

pub slice_bounds-table-count : goal.slice_bounds-table-count
slice_bounds-table-count c = omega (arith, listable_long (unrefused _ (sym c.in-Ok.ensures)))

pub slice_bounds-table-start : goal.slice_bounds-table-start
slice_bounds-table-start c = let t = listable_long (unrefused _ (sym c.in-Ok.ensures)) in search rules

pub u64_at-requires : goal.u64_at-requires
u64_at-requires c = omega (arith, listable_long (unrefused _ (sym c.in-Ok.ensures)))

pub invariant_of-table : goal.invariant_of-table
invariant_of-table c = listable_stands (unrefused _ (sym c.in-Ok.ensures))

pub list-requires : goal.list-requires
list-requires c = listable_ends _ (unrefused _ (sym c.in-Ok.ensures)) (λ i. (c.type_inv.input i).fits) _ c.u64_at.ensures

pub returns-in-Ok : goal.returns-in-Ok
returns-in-Ok c = table_listing _ (λ i. (c.type_inv.input i).fits) (sym c.in-Ok.ensures) c.u64_at.ensures c.list.ensures

pub list-requires-in-Err : goal.list-requires-in-Err
list-requires-in-Err c = let e = refused_ends _ (refusal_low _ _ c.in-Err.ensures) in search rules

pub returns-in-Err : goal.returns-in-Err
returns-in-Err c =
    refused_listing _ (refusal_low _ _ c.in-Err.ensures) c.in-Err.ensures (number_nonzero _) (c.list-in-Err.ensures (refused_text (number c.in-Err.refusal)) (search rules))
