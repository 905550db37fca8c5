-- The text of a listing in its pieces, and what a buffer holds after it. Assumes nothing.
use Rattle.std.specs.Prelude.{Ok, Err}
use denote.Ref.{MutBor}
use Prim.Native.Nat.{ℕ, ◌+◌, ◌<◌, ◌≤◌}
use native.Mathlib.Nat.{zero-add}
use native.Mathlib.Omega.{arith}
use mathlib.Core.Path.{◌≡◌, refl, ap, ◌∙◌}
use mathlib.Core.Bool.{Bool, true, false, cond}
use mathlib.Core.List.{List, ◌∷◌, ◌++◌}
use lib.ListN.{length, length-append}
use lib.Dec.{leb}
use borrow.Author.Tests.{le-leb, lt-leb, leb-true}
use Rattle.words.proofs.Laws.{splice_sets}
use Rattle.numbers.specs.declared.Refusal.TheVariants.{Buffer}
use Rattle.text.specs.Text.{decimal, field, named}
use Rattle.text.specs.declared.Writer.{Writer}
use Rattle.text.specs.Inner.Written.{Ends, Wrote}
use Rattle.text.proofs.TextLaws.{decimal_short}
use Rattle.layout.specs.Layout.{keys_in, arena_in}
use Rattle.records.specs.Model.{Entry}
use Rattle.records.proofs.PassedLaws.{entries_count}
use Rattle.point.specs.Table.{table_of}
use Rattle.lines.specs.Shown.{Rule, shown_of}
use Rattle.lines.specs.Listing.{refused_word, newline, lines_of, listing_header, table_text, refused_text, listed_of, buffer_of}
use Rattle.lines.specs.Inner.Steps.{Lists}

-- ---- the pieces

table_keys : (body : List ℕ) → length (table_of body) ≡ keys_in body
unfolding table_of
table_keys body = entries_count body (arena_in body) (keys_in body)

module _ (rule : Rule) where
  pub table_text_lem : (body : List ℕ) (limit keys count : ℕ) → keys ≡ keys_in body → count ≡ length (shown_of rule limit (table_of body))
      → table_text rule limit (table_of body) ≡ listing_header limit keys count ++ lines_of rule limit (table_of body)
  unfolding table_text
  table_text_lem body limit keys count ek ec = rw (ek, ec, table_keys body)

  pub ends_lines : {at : ℕ} (limit : ℕ) (table : List Entry) → Ends at (table_text rule limit table) → Ends at (lines_of rule limit table)
  unfolding table_text
  ends_lines limit table h =
      let e = length-append (listing_header limit (length table) (length (shown_of rule limit table))) (lines_of rule limit table) in
      record { inside = omega (arith, h.inside) }

pub named_length : (word : List ℕ) (n : ℕ) → length (named word n) ≡ length word + 1 + length (decimal n)
unfolding named field
named_length word n = let e = length-append word (32 ∷ decimal n) in omega arith

pub refused_length : (r : ℕ) → length (refused_text r) ≡ 9 + length (decimal r)
unfolding refused_text
refused_length r = omega (arith, length-append (named refused_word r) newline, named_length refused_word r)

pub refused_ends : (r : ℕ) → r < 256 → Ends 0 (refused_text r)
refused_ends r h = record { inside = omega (arith, refused_length r, decimal_short r (omega arith)) }

-- ---- the buffer

module _ {text : List ℕ} {none : MutBor (List ℕ)} {measured : Writer} (m : Wrote (record { out = none; at = 0 }) text measured) where
  pub lists_short : {before : List ℕ} → length before < measured.at → Lists text before (Err Buffer) before
  unfolding listed_of buffer_of
  lists_short {before} h =
      let g = lt-leb (length text) (length before) (omega (arith, m.place)) in
      record { answer = rw g; buffer = rw g }

  pub lists_fit : {out : MutBor (List ℕ)} {after : Writer} → measured.at ≤ length out.now → Wrote (record { out = out; at = 0 }) text after → Lists text out.now (Ok measured.at) after.out.now
  unfolding listed_of buffer_of
  lists_fit {out} h w =
      let g = le-leb (length text) (length out.now) (omega (arith, m.place)) in
      record {
        answer = rw g (ap Ok (m.place ∙ zero-add (length text)));
        buffer = rw g (w.buffer ∙ splice_sets out.now 0 text (omega (arith, m.place)));
      }

-- a text that is listed lies in the buffer
pub listed_fits : (text before : List ℕ) (n : ℕ) → Ok n ≡ listed_of text before → n ≤ length before
unfolding listed_of
listed_fits text before n e = go (leb (length text) (length before)) refl e
  where
    go : (b : Bool) → leb (length text) (length before) ≡ b → Ok n ≡ cond b (Ok (length text)) (Err Buffer) → n ≤ length before
    go true q f = let d : n ≡ length text = cc in let l = leb-true (length text) (length before) q in omega arith
    go false q f = absurd (let z : ◌≡◌ {A = ℕ} 0 1 = cc in omega arith)
