-- How long a listing is: a line is at most twice as long as its entry's bytes, and the header at most 80 bytes. Assumes nothing.
use Rattle.std.specs.Prelude.{Some}
use Prim.Native.Nat.{ℕ, ◌+◌, ◌*◌, ◌^◌, ◌<◌, ◌≤◌}
use native.Mathlib.Omega.{arith}
use mathlib.Core.Path.{◌≡◌, refl}
use mathlib.Core.Bool.{Bool, true, false, cond}
use mathlib.Core.List.{List, [], ◌∷◌, ◌++◌}
use mathlib.Core.Option.{Option, none, some}
use lib.ListN.{length, length-append}
use Rattle.laws.specs.Each.{Each}
use Rattle.laws.specs.Each.Each.{each_more}
use Rattle.text.specs.Text.{decimal, key_text, field, named}
use Rattle.text.proofs.TextLaws.{decimal_length, decimal_short, key_text_length}
use Rattle.records.specs.Limits.{DataLength}
use Rattle.records.specs.declared.Kind.{Kind}
use Rattle.records.specs.declared.Kind.TheVariants.{Put, Tombstone}
use Rattle.records.specs.declared.Record.{Record}
use Rattle.records.specs.Model.{Entry, entry_bytes, table_bytes, record_within}
use Rattle.records.specs.Tables.{RecordRules, EntryRules}
use Rattle.records.proofs.ModelLaws.{greatest_has}
use Rattle.records.proofs.WriteLaws.{entry_size}
use Rattle.lines.specs.Shown.{Rule, shown, shows_for, shown_of}
use Rattle.lines.specs.Listing.{limit_word, keys_word, shown_word, kind_word, newline, record_text, line_of, text_of_shown, lines_of, listing_header, table_text}
use Rattle.lines.proofs.ShownLaws.{shown_few}
use Rattle.lines.proofs.TextLaws.{named_length}

-- ---- a record that is shown is one of the entry's

pub shown_of_lem : {P : Record → Type 0} (rule : Rule) (limit : ℕ) (e : Entry) (r : Record) → Each P e.versions → shown rule limit e ≡ some r → P r
unfolding shown
shown_of_lem {P} rule limit e r u q = go (rule limit e) q
  where
    go : (b : Bool) → cond b none (record_within (Some limit) e) ≡ some r → P r
    go true f = absurd (let z : ◌≡◌ {A = ℕ} 0 1 = cc in omega arith)
    go false f = greatest_has (Some limit) e.versions r u f

-- ---- a line

field_length : (n : ℕ) → length (field n) ≡ 1 + length (decimal n)
unfolding field
field_length n = omega arith

kind_length : (k : Kind) → length (kind_word k) ≤ 5
kind_length Put = omega arith
kind_length Tombstone = omega arith

record_length : (test : DataLength) (r : Record) → RecordRules test r → length (record_text r) ≤ 57
unfolding record_text
record_length test r u =
    let a = field r.sequence in
    let k = kind_word r.kind in
    let o = field r.offset in
    let l = field r.length in
    let e₁ = length-append a (k ++ (o ++ (l ++ newline))) in
    let e₂ = length-append k (o ++ (l ++ newline)) in
    let e₃ = length-append o (l ++ newline) in
    let e₄ = length-append l newline in
    let s = decimal_short r.sequence u.fits.sequence_fits in
    let f = decimal_short r.offset u.fits.offset_fits in
    let d = decimal_length 7 r.length (omega (arith, u.small)) in
    let t = kind_length r.kind in
    omega (arith, field_length r.sequence, field_length r.offset, field_length r.length)

line_length : (test : DataLength) (key : List ℕ) (r : Record) → RecordRules test r → length (line_of key r) ≤ 58 + 2 * length key
unfolding line_of
line_length test key r u = omega (arith, length-append (key_text key) (record_text r), key_text_length key, record_length test r u)

pub lines_length : (test : DataLength) (rule : Rule) (limit : ℕ) (t : List Entry) → Each (EntryRules test) t → length (lines_of rule limit t) ≤ 2 * length (table_bytes t)
unfolding text_of_shown shown_of table_bytes
lines_length test rule limit [] u = omega arith
lines_length test rule limit (e ∷ es) (each_more p ps) = go (shown rule limit e) refl (lines_length test rule limit es ps)
  where
    go : (o : Option Record) → shown rule limit e ≡ o → length (lines_of rule limit es) ≤ 2 * length (table_bytes es)
        → length (text_of_shown (shows_for e.key o (shown_of rule limit es))) ≤ 2 * length (entry_bytes e ++ table_bytes es)
    go none q h = omega (arith, length-append (entry_bytes e) (table_bytes es))
    go (some r) q h =
        omega
        (arith, length-append (line_of e.key r) (lines_of rule limit es), length-append (entry_bytes e) (table_bytes es), line_length test e.key r (shown_of_lem rule limit e r p.versions q), entry_size e, p.some)

-- ---- the header and the whole

header_length : (limit keys count : ℕ) → limit < 2 ^ 64 → keys < 2 ^ 64 → count < 2 ^ 64 → length (listing_header limit keys count) ≤ 80
unfolding listing_header
header_length limit keys count l k s =
    omega
    (arith, length-append (named limit_word limit) (named keys_word keys ++ (named shown_word count ++ newline)), length-append (named keys_word keys) (named shown_word count ++ newline), length-append (named shown_word count) newline, named_length limit_word limit, named_length keys_word keys, named_length shown_word count, decimal_short limit l, decimal_short keys k, decimal_short count s)

pub table_length : (test : DataLength) (rule : Rule) (limit : ℕ) (t : List Entry) → Each (EntryRules test) t → limit < 2 ^ 64 → length t < 2 ^ 64 → length (table_text rule limit t) ≤ 80 + 2 * length (table_bytes t)
unfolding table_text
table_length test rule limit t u l n =
    let c = shown_few rule limit t in
    omega
    (arith, length-append (listing_header limit (length t) (length (shown_of rule limit t))) (lines_of rule limit t), header_length limit (length t) (length (shown_of rule limit t)) l n (omega arith), lines_length test rule limit t u)
