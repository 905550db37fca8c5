-- How many lines a text has: a number, a key and a word have no newline, so each line of the listing has one. Assumes nothing.
use Prim.Native.Nat.{ℕ, zero, suc, ◌+◌, ◌/◌, ◌%◌, ◌≤◌}
use native.Mathlib.Nat.{zero-add}
use native.Mathlib.Omega.{arith}
use mathlib.Core.Path.{◌≡◌, refl, sym, ◌∙◌}
use mathlib.Core.Bool.{Bool, true, false, cond}
use mathlib.Core.List.{List, [], ◌∷◌, ◌++◌}
use lib.Dec.{ltb}
use lib.ListN.{length}
use borrow.Author.Tests.{ne_eqb}
use Rattle.text.specs.Text.{digits_in, decimal, hex_digit, hex_of, key_text, field}
use Rattle.records.specs.declared.Kind.{Kind}
use Rattle.records.specs.declared.Kind.TheVariants.{Put, Tombstone}
use Rattle.records.specs.declared.Record.{Record}
use Rattle.lines.specs.Shown.{Shows}
use Rattle.lines.specs.Listing.{kind_word, newline, line_count, record_text, line_of, text_of_shown}

count_append : (xs ys : List ℕ) → line_count (xs ++ ys) ≡ line_count xs + line_count ys
unfolding line_count
count_append [] ys = sym (zero-add (line_count ys))
count_append (x ∷ xs) ys = omega (arith, count_append xs ys)

-- a byte from 48 on is no newline
count_high : (b : ℕ) (bs : List ℕ) → 48 ≤ b → line_count (b ∷ bs) ≡ line_count bs
unfolding line_count
count_high b bs h = rw (ne_eqb b 10 (λ e. omega arith)) (zero-add (line_count bs))

empty_count : line_count [] ≡ 0
unfolding line_count
empty_count = refl

-- ---- the pieces

count_digits : (steps n : ℕ) → line_count (digits_in steps n) ≡ 0
unfolding digits_in
count_digits zero n = empty_count
count_digits (suc k) n = go (ltb n 10) (count_digits k (n / 10))
  where
    go : (t : Bool) → line_count (digits_in k (n / 10)) ≡ 0 → line_count (cond t ((48 + n) ∷ []) (digits_in k (n / 10) ++ ((48 + n % 10) ∷ []))) ≡ 0
    go true r = count_high (48 + n) [] (omega arith) ∙ empty_count
    go false r =
        omega
        (arith, count_append (digits_in k (n / 10)) ((48 + n % 10) ∷ []), r, count_high (48 + n % 10) [] (omega arith), empty_count)

count_field : (n : ℕ) → line_count (field n) ≡ 0
unfolding field decimal line_count
count_field n = omega (arith, count_digits (suc n) n)

digit_high : (d : ℕ) → 48 ≤ hex_digit d
digit_high d = go (ltb d 10)
  where
    go : (t : Bool) → 48 ≤ cond t (48 + d) (87 + d)
    go true = omega arith
    go false = omega arith

count_hex : (bytes : List ℕ) → line_count (hex_of bytes) ≡ 0
unfolding hex_of
count_hex [] = empty_count
count_hex (b ∷ bs) =
    count_high (hex_digit (b / 16)) (hex_digit (b % 16) ∷ hex_of bs) (digit_high (b / 16))
    ∙ count_high (hex_digit (b % 16)) (hex_of bs) (digit_high (b % 16))
    ∙ count_hex bs

dash_count : line_count (45 ∷ []) ≡ 0
unfolding line_count
dash_count = refl

count_key : (key : List ℕ) → line_count (key_text key) ≡ 0
unfolding key_text
count_key [] = dash_count
count_key (b ∷ bs) = count_hex (b ∷ bs)

count_kind : (k : Kind) → line_count (kind_word k) ≡ 0
unfolding line_count
count_kind Put = refl
count_kind Tombstone = refl

-- ---- the lines

count_newline : line_count newline ≡ 1
unfolding line_count
count_newline = refl

count_line : (key : List ℕ) (r : Record) → line_count (line_of key r) ≡ 1
unfolding line_of record_text
count_line key r =
    let k = kind_word r.kind in
    let o = field r.offset in
    let l = field r.length in
    let e₀ = count_append (key_text key) (field r.sequence ++ (k ++ (o ++ (l ++ newline)))) in
    let e₁ = count_append (field r.sequence) (k ++ (o ++ (l ++ newline))) in
    let e₂ = count_append k (o ++ (l ++ newline)) in
    let e₃ = count_append o (l ++ newline) in
    let e₄ = count_append l newline in
    omega
    (arith, count_key key, count_field r.sequence, count_kind r.kind, count_field r.offset, count_field r.length, count_newline)

-- THEOREM: S is the number of lines that follow the header
pub lines_counted : (ss : List Shows) → line_count (text_of_shown ss) ≡ length ss
unfolding text_of_shown
lines_counted [] = empty_count
lines_counted (s ∷ ss) = omega (arith, count_append (line_of s.key s.version) (text_of_shown ss), count_line s.key s.version, lines_counted ss)
