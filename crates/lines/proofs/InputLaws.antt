-- The input: which number it is refused with, what an input that is not refused holds, and the room that its text needs. Assumes nothing.
use Rattle.std.specs.Prelude.{Some, Result, Ok, Err}
use Prim.Native.Nat.{ℕ, zero, suc, ◌-◌, ◌*◌, ◌^◌, ◌<◌, ◌≤◌}
use native.Mathlib.Nat.{suc-ne-zero}
use native.Mathlib.Omega.{arith}
use mathlib.Core.Path.{◌≡◌, refl, sym, ap, ◌∙◌}
use mathlib.Core.Bool.{Bool, true, false, cond}
use mathlib.Core.List.{List}
use lib.Dec.{ltb}
use lib.ListN.{length, take, drop, length-drop}
use borrow.Author.Rules.{part_to_end}
use borrow.Author.Tests.{ltb-false, lt-ltb, le-ltb}
use Rattle.laws.proofs.RefusalLaws.{or_else_zero}
use Rattle.words.proofs.Laws.{bytes_drop, le_lt}
use Rattle.words.specs.Field.{AllBytes}
use Rattle.numbers.specs.declared.Refusal.{Refusal}
use Rattle.numbers.specs.Numbers.{number_of}
use Rattle.numbers.proofs.NumberLaws.{number_nonzero}
use Rattle.text.specs.Inner.Written.{Ends}
use Rattle.text.proofs.TextLaws.{decimal_short}
use Rattle.layout.specs.Layout.{arena_in}
use Rattle.layout.proofs.HeaderLaws.{headed}
use Rattle.records.specs.Model.{table_bytes}
use Rattle.point.specs.Validate.{validate_of}
use Rattle.point.specs.Table.{table_of}
use Rattle.point.proofs.ValidateLaws.{validation_passed}
use Rattle.point.specs.Inner.Stands.{TableStands}
use Rattle.point.proofs.SlotLaws.{accepted_stands, holds_table}
use Rattle.lines.specs.Shown.{Rule}
use Rattle.lines.specs.Listing.{table_text, refused_text, limit_in, data_length_in, body_in, size_refusal, listing_refusal, text_by, text_of, Listing}
use Rattle.lines.specs.Causes.{Listable}
use Rattle.lines.specs.Inner.Steps.{Lists}
use Rattle.lines.proofs.TextLaws.{refused_length}
use Rattle.lines.proofs.RoomLaws.{table_length}

-- ---- the number

module _ (input : List ℕ) where
  pub size_short : length input < 16 → 16 ≡ listing_refusal input
  unfolding listing_refusal size_refusal
  size_short h = rw (lt-ltb (length input) 16 h)

  pub size_long : 16 ≤ length input → 65536 < length input → 16 ≡ listing_refusal input
  unfolding listing_refusal size_refusal
  size_long h g = rw (le-ltb (length input) 16 h, lt-ltb 65536 (length input) g)

  pub size_passed : 16 ≤ length input → length input ≤ 65536 → (v : Result (Unit {0}) Refusal) (size : ℕ) → size ≡ data_length_in input → v ≡ validate_of (take (length input - 16) (drop 16 input)) size
      → number_of v ≡ listing_refusal input
  unfolding listing_refusal size_refusal
  size_passed h g v size es ev =
      rw (le-ltb (length input) 16 h, le-ltb 65536 (length input) g)
      (ap number_of (ev ∙ ap (λ (b : List ℕ). validate_of b size) (part_to_end input 16) ∙ ap (validate_of (drop 16 input)) es))

-- an answer of the number 0 accepts
accepts : (r : Result (Unit {0}) Refusal) → number_of r ≡ 0 → r ≡ Ok (record {})
accepts (Ok u) e = refl
accepts (Err r) e = absurd (number_nonzero r e)

pub unrefused : (input : List ℕ) → listing_refusal input ≡ 0 → Listable input
unfolding listing_refusal size_refusal
unrefused input e =
    let s = or_else_zero (size_refusal input) (number_of (validate_of (body_in input) (data_length_in input))) e in
    go (ltb (length input) 16) (ltb 65536 (length input)) refl refl s.0 (accepts (validate_of (body_in input) (data_length_in input)) s.1)
  where
    go : (a b : Bool) → ltb (length input) 16 ≡ a → ltb 65536 (length input) ≡ b → cond {A = ℕ} a 16 (cond b 16 0) ≡ 0 → validate_of (body_in input) (data_length_in input) ≡ Ok (record {}) → Listable input
    go true b ea eb z v = absurd (suc-ne-zero _ z)
    go false true ea eb z v = absurd (suc-ne-zero _ z)
    go false false ea eb z v = record { short = ltb-false _ _ eb; accepted = v }

-- ---- the text

refused_by : (rule : Rule) (input : List ℕ) (r : ℕ) → (r ≡ 0 → ⊥) → text_by rule input r ≡ refused_text r
refused_by rule input zero n = absurd (n refl)
refused_by rule input (suc r) n = refl

pub text_refused : (rule : Rule) (input : List ℕ) (r : ℕ) → r ≡ listing_refusal input → (r ≡ 0 → ⊥) → text_of rule input ≡ refused_text r
unfolding text_of
text_refused rule input r e n = ap (text_by rule input) (sym e) ∙ refused_by rule input r n

text_listed : (rule : Rule) (input : List ℕ) → listing_refusal input ≡ 0 → (limit : ℕ) → limit ≡ limit_in input
    → text_of rule input ≡ table_text rule limit (table_of (take (length input - 16) (drop 16 input)))
unfolding text_of
text_listed rule input e limit el = ap (text_by rule input) e ∙ sym (rw (part_to_end input 16, el))

-- ---- the body

-- an accepted body has a header
pub listable_long : {input : List ℕ} → Listable input → 16 ≤ length input
listable_long {input} t = omega (arith, (headed (body_in input) (validation_passed (body_in input) (data_length_in input) t.accepted).checked.header).long, length-drop 16 input)

pub listable_stands : {input : List ℕ} → Listable input → TableStands (take (length input - 16) (drop 16 input))
listable_stands {input} t = rw (part_to_end input 16) (accepted_stands (body_in input) (data_length_in input) t.accepted)

-- ---- room

-- a listing of a table is not longer than twice its input
listed_length : (rule : Rule) (input : List ℕ) (limit : ℕ) → Listable input → AllBytes input → limit ≡ limit_in input → length (table_text rule limit (table_of (body_in input))) ≤ 2 * length input
listed_length rule input limit t all el =
    let body = body_in input in
    let bytes : AllBytes body = bytes_drop 16 input all in
    let h = headed body (validation_passed body (data_length_in input) t.accepted).checked.header in
    let u = holds_table body (data_length_in input) t.accepted bytes in
    let l : limit < 2 ^ 64 = rw el (le_lt 8 input 0 all) in
    let n : length (table_of body) < 2 ^ 64 = omega (arith, u.count, le_lt 4 body 16 bytes) in
    let s : length (table_bytes (table_of body)) ≡ length input - 16 - arena_in body = sym (ap length u.bytes) ∙ simp length-drop in
    omega (arith, length-drop 16 input, table_length (Some (data_length_in input)) rule limit (table_of body) u.rules.entries l n)

pub listable_ends : (rule : Rule) {input : List ℕ} → Listable input → AllBytes input → (limit : ℕ) → limit ≡ limit_in input → Ends 0 (table_text rule limit (table_of (take (length input - 16) (drop 16 input))))
listable_ends rule {input} t all limit el =
    rw (part_to_end input 16) (record { inside = omega (arith, listed_length rule input limit t all el, t.short) })

-- ---- the answer

module _ {rule : Rule} {input before after : List ℕ} {a : Result ℕ Refusal} where
  pub refused_listing : (r : ℕ) → r < 256 → r ≡ listing_refusal input → (r ≡ 0 → ⊥) → Lists (refused_text r) before a after → Listing rule input before a after
  refused_listing r h e n l =
      let t = text_refused rule input r e n in
      record { answer = rw t l.answer; buffer = rw t l.buffer; room = rw t (omega (arith, refused_length r, decimal_short r (omega arith))) }

  pub table_listing : (limit : ℕ) → AllBytes input → listing_refusal input ≡ 0 → limit ≡ limit_in input → Lists (table_text rule limit (table_of (take (length input - 16) (drop 16 input)))) before a after
      → Listing rule input before a after
  table_listing limit all e el l =
      let t = text_listed rule input e limit el in
      let k = unrefused input e in
      record {
        answer = rw t l.answer;
        buffer = rw t l.buffer;
        room = rw (t, part_to_end input 16) (omega (arith, listed_length rule input limit k all el, k.short));
      }
