-- The rules of tables: what keeps the rules fits its bytes; the data test put on. Assumes nothing.
use Rattle.std.specs.Prelude.{Some}
use Prim.Native.Nat.{ℕ, ◌+◌}
use native.Mathlib.Omega.{arith}
use mathlib.Core.List.{List, [], ◌∷◌}
use borrow.Author.Tests.{le-ltb}
use Rattle.laws.specs.Each.{Each}
use Rattle.laws.proofs.EachLaws.{each_map}
use Rattle.laws.specs.Each.Each.{each_none, each_more}
use Rattle.records.specs.declared.Record.{Record}
use Rattle.records.specs.Limits.{DataLength}
use Rattle.records.specs.Model.{Entry}
use Rattle.records.specs.Tables.{RecordFits, EntryFits, TableFits, RecordRules, EntryRules, TableRules, InData, EntryInData, TableInData}

module _ (test : DataLength) where
  record_fits : (r : Record) → RecordRules test r → RecordFits r
  record_fits r k = k.fits

  pub entry_fits : (e : Entry) → EntryRules test e → EntryFits e
  entry_fits e k =
      let s = k.small in
      record { key_fits = omega arith; count_fits = k.few; versions_fit = each_map record_fits e.versions k.versions }

  -- a table that keeps the rules fits its bytes
  pub table_fits : (t : List Entry) → TableRules test t → TableFits t
  table_fits t k = each_map entry_fits t k.entries

-- two facts of each element give a third
each_two : {A : Type 0} {P Q R : A → Type 0} → ((x : A) → P x → Q x → R x) → (xs : List A) → Each P xs → Each Q xs → Each R xs
each_two f [] each_none each_none = each_none
each_two f (x ∷ xs) (each_more p ps) (each_more q qs) = each_more (f x p q) (each_two f xs ps qs)

-- a table keeps the rules with a data test where every record lies inside the data
module _ (test : DataLength) (size : ℕ) where
  record_tested : (r : Record) → RecordRules test r → InData size r → RecordRules (Some size) r
  record_tested r k i =
      record { fits = k.fits; small = k.small; inside = le-ltb size (r.offset + r.length) i; empty = k.empty }

  entry_tested : (e : Entry) → EntryRules test e → EntryInData size e → EntryRules (Some size) e
  entry_tested e k i =
      record { small = k.small; some = k.some; few = k.few; falls = k.falls; versions = each_two record_tested e.versions k.versions i }

  pub table_tested : (t : List Entry) → TableRules test t → TableInData size t → TableRules (Some size) t
  table_tested t k i = record { entries = each_two entry_tested t k.entries i; rises = k.rises }
