-- The laws of numbers and byte strings as text: a digit at a time, and how long they are. Assumes nothing.
use Prim.Native.Nat.{ℕ, zero, suc, ◌+◌, ◌-◌, ◌*◌, ◌/◌, ◌%◌, ◌^◌, ◌≤◌, ◌<◌}
use native.Mathlib.Nat.{pow-suc, not-suc-le-zero, suc-ne-zero}
use native.Mathlib.Numerals.{add-one}
use native.Mathlib.Omega.{arith}
use mathlib.Core.Path.{◌≡◌, refl, sym, ap, ◌∙◌}
use mathlib.Core.Bool.{Bool, true, false, cond}
use mathlib.Core.List.{List, [], ◌∷◌, ◌++◌, append_assoc}
use lib.Dec.{eqb, ltb}
use lib.ListN.{length, take, drop, set, length-append, length-drop, length-set}
use lib.Seq.{drop-cons, get_or-set_same, drop-set-lt}
use borrow.Author.Rules.{part_to_end}
use borrow.Author.Tests.{eqb-true, ltb-true, ltb-false, lt-ltb, le-ltb}
use Rattle.text.specs.Text.{digits_in, decimal, read_from, hex_of, key_text}

-- ---- decimal digits

-- steps enough are as good as any
digits_same : (k j n : ℕ) → n < k → n < j → digits_in k n ≡ digits_in j n
unfolding digits_in
digits_same zero j n h g = absurd (not-suc-le-zero h)
digits_same (suc k) zero n h g = absurd (not-suc-le-zero g)
digits_same (suc k) (suc j) n h g = go (ltb n 10) refl (digits_same k j (n / 10))
  where
    go : (t : Bool) → ltb n 10 ≡ t → (n / 10 < k → n / 10 < j → digits_in k (n / 10) ≡ digits_in j (n / 10)) → digits_in (suc k) n ≡ digits_in (suc j) n
    go true e rest = rw e
    go false e rest = let f = ltb-false n 10 e in rw (e, rest (omega arith) (omega arith))

module _ (n : ℕ) where
  pub decimal_last : n < 10 → decimal n ≡ (48 + n) ∷ []
  unfolding decimal digits_in
  decimal_last h = rw (lt-ltb n 10 h)

  pub decimal_more : 10 ≤ n → decimal n ≡ decimal (n / 10) ++ ((48 + n % 10) ∷ [])
  unfolding decimal digits_in
  decimal_more h =
      rw (le-ltb n 10 h, digits_same n (suc (n / 10)) (n / 10) (omega arith) (omega arith))

pub decimal_length : (k n : ℕ) → n < 10 ^ suc k → length (decimal n) ≤ suc k
decimal_length zero n h = rw (decimal_last n (omega arith)) (omega arith)
decimal_length (suc k) n h = go (ltb n 10) refl (decimal_length k (n / 10))
  where
    go : (t : Bool) → ltb n 10 ≡ t → (n / 10 < 10 ^ suc k → length (decimal (n / 10)) ≤ suc k) → length (decimal n) ≤ suc (suc k)
    go true e rest = rw (decimal_last n (ltb-true n 10 e)) (omega arith)
    go false e rest =
        let p = rest (let q : n < 10 ^ suc k * 10 = rw pow-suc at h in omega arith) in
        rw (decimal_more n (ltb-false n 10 e), length-append) (omega arith)

-- a number of 64 bits has at most 20 digits
pub decimal_short : (n : ℕ) → n < 2 ^ 64 → length (decimal n) ≤ 20
decimal_short n h = decimal_length 19 n (omega arith)

read_last : (n : ℕ) (ds : List ℕ) (d : ℕ) → read_from n (ds ++ (d ∷ [])) ≡ 10 * read_from n ds + (d - 48)
unfolding read_from
read_last n [] d = refl
read_last n (x ∷ ds) d = read_last (10 * n + (x - 48)) ds d

digits_read : (k n : ℕ) → n < k → read_from 0 (digits_in k n) ≡ n
unfolding digits_in read_from
digits_read zero n h = absurd (not-suc-le-zero h)
digits_read (suc k) n h = go (ltb n 10) refl (digits_read k (n / 10))
  where
    go : (t : Bool) → ltb n 10 ≡ t → (n / 10 < k → read_from 0 (digits_in k (n / 10)) ≡ n / 10) → read_from 0 (cond t ((48 + n) ∷ []) (digits_in k (n / 10) ++ ((48 + n % 10) ∷ []))) ≡ n
    go true e rest = omega arith
    go false e rest =
        let f = ltb-false n 10 e in
        let r = rest (omega arith) in
        omega (arith, read_last 0 (digits_in k (n / 10)) (48 + n % 10))

-- THEOREM: the decimal digits of a number, read, are the number
pub decimal_read : (n : ℕ) → read_from 0 (decimal n) ≡ n
unfolding decimal
decimal_read n = digits_read (suc n) n (omega arith)

-- ---- hex

pub hex_length : (bytes : List ℕ) → length (hex_of bytes) ≡ 2 * length bytes
unfolding hex_of
hex_length [] = refl
hex_length (b ∷ bs) = let e = hex_length bs in omega arith

-- a key that is empty, and one that is not
pub key_text_none : (key : List ℕ) → true ≡ eqb (length key) 0 → key_text key ≡ 45 ∷ []
unfolding key_text
key_text_none [] e = refl
key_text_none (b ∷ bs) e = absurd (suc-ne-zero _ (eqb-true _ _ (sym e)))

pub key_text_some : (key : List ℕ) → false ≡ eqb (length key) 0 → key_text key ≡ hex_of key
unfolding key_text
key_text_some [] e = cc
key_text_some (b ∷ bs) e = refl

pub key_text_length : (key : List ℕ) → length (key_text key) ≤ 1 + 2 * length key
unfolding key_text
key_text_length [] = omega arith
key_text_length (b ∷ bs) = rw (hex_length (b ∷ bs)) (omega arith)

-- ---- the digits, laid down from the end of an array

pub drop_stored : (l : List ℕ) (i x : ℕ) → i < length l → drop i (set l i x) ≡ x ∷ drop (i + 1) l
drop_stored l i x h =
    let q : i < length (set l i x) = rw length-set h in
    rw (add-one, drop-cons (set l i x) i 0 q, get_or-set_same l i x 0 h, drop-set-lt (suc i) l i x (omega arith))

decimal_some : (n : ℕ) → 0 < length (decimal n)
decimal_some n = go (ltb n 10) refl
  where
    go : (t : Bool) → ltb n 10 ≡ t → 0 < length (decimal n)
    go true e = rw (decimal_last n (ltb-true n 10 e)) (omega arith)
    go false e = rw (decimal_more n (ltb-false n 10 e), length-append) (omega arith)

module _ (n rest from : ℕ) (bytes : List ℕ) (all : length bytes ≡ 20) (here : from < 20) (so : decimal rest ++ drop (from + 1) bytes ≡ decimal n) where
  pub digits_room : n < 2 ^ 64 → 10 ≤ rest → 1 ≤ from
  digits_room h t =
      let a = decimal_short n h in
      let b = decimal_some (rest / 10) in
      let e : length (decimal rest) ≡ length (decimal (rest / 10)) + 1 = rw (decimal_more rest t, length-append) in
      let d : length (decimal rest) + (length bytes - (from + 1)) ≡ length (decimal n) = simp (length-append, length-drop) at (ap length so) in
      omega arith

  pub digits_on : 10 ≤ rest → 1 ≤ from → decimal (rest / 10) ++ drop (from - 1 + 1) (set bytes from (48 + rest % 10)) ≡ decimal n
  digits_on t f =
      let e : from - 1 + 1 ≡ from = omega arith in
      let q : from < length bytes = omega arith in
      rw (e, drop_stored bytes from (48 + rest % 10) q) (sym (append_assoc (decimal (rest / 10)) ((48 + rest % 10) ∷ []) (drop (from + 1) bytes)) ∙ rw (← decimal_more rest t) so)

  -- the part of the array from the first digit on
  pub digits_end : rest < 10 → take (20 - from) (drop from (set bytes from (48 + rest))) ≡ decimal n
  digits_end t =
      let q : from < length bytes = omega arith in
      let e : length (set bytes from (48 + rest)) ≡ 20 = length-set bytes from (48 + rest) ∙ all in
      ap (λ (k : ℕ). take (k - from) (drop from (set bytes from (48 + rest)))) (sym e)
      ∙ part_to_end (set bytes from (48 + rest)) from
      ∙ drop_stored bytes from (48 + rest) q
      ∙ rw (decimal_last rest t) at so
