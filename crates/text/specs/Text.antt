-- Numbers and byte strings as text, in ASCII.
use Rattle.std.specs.Prelude.{ℕ, zero, suc, ◌+◌, ◌-◌, ◌*◌, ◌/◌, ◌%◌, cond, List, [], ◌∷◌, ◌++◌, ltb}

-- the decimal digits of n, the most significant first, in at most so many steps
unfoldable pub digits_in : ℕ → ℕ → List ℕ
digits_in zero n = []
digits_in (suc steps) n = cond (ltb n 10) ((48 + n) ∷ []) (digits_in steps (n / 10) ++ ((48 + n % 10) ∷ []))

-- the decimal digits of n: a number has no more of them than n + 1
unfoldable pub decimal : ℕ → List ℕ
decimal n = digits_in (suc n) n

-- the number that decimal digits stand for, behind n
unfoldable pub read_from : ℕ → List ℕ → ℕ
read_from n [] = n
read_from n (d ∷ ds) = read_from (10 * n + (d - 48)) ds

-- a digit in lower-case hex
abbrev pub hex_digit : ℕ → ℕ
hex_digit d = cond (ltb d 10) (48 + d) (87 + d)

-- bytes in lower-case hex, two digits each
unfoldable pub hex_of : List ℕ → List ℕ
hex_of [] = []
hex_of (b ∷ bs) = hex_digit (b / 16) ∷ hex_digit (b % 16) ∷ hex_of bs

-- a key in lower-case hex, `-` for the empty key
unfoldable pub key_text : List ℕ → List ℕ
key_text [] = 45 ∷ []
key_text (b ∷ bs) = hex_of (b ∷ bs)

-- a space and a number
unfoldable pub field : ℕ → List ℕ
field n = 32 ∷ decimal n

-- a word, a space and a number
unfoldable pub named : List ℕ → ℕ → List ℕ
named word n = word ++ field n
