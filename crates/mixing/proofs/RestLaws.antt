-- The word that the rest of a key is folded into. Assumes nothing.
use Rattle.std.proofs.Common.{◌≡◌, ℕ, zero, suc, ◌+◌, ◌-◌, ◌*◌, ◌/◌, ◌%◌, ◌^◌, ◌≤◌, List, [], ◌∷◌, length, get_or, take, drop, replicate, sym, refl, ap, ◌∙◌, add-zero, mul_comm, add_comm, pow-suc, mul-zero, mul-suc, arith, length-drop, take-append-drop, length-take-le, take_all, pow-add}
use native.Mathlib.Nat.{pow-zero}
use lib.Arith.{digits_div}
use lib.Seq.{drop-length}
use Rattle.words.specs.Field.{AllBytes, spelled, le}
use Rattle.words.proofs.Laws.{spelled_append, le_lt, le_join}
use Rattle.mixing.specs.Mixing.{filled}
use Rattle.mixrule.specs.Mixing.Opened.{filled_is}

spelled_zeros : (k : ℕ) → spelled (replicate k 0) ≡ 0
unfolding spelled
spelled_zeros zero = refl
spelled_zeros (suc k) = rw (spelled_zeros k) refl

-- zeros behind bytes add nothing: a rest of any length, zero-filled, is the number that its bytes spell
filled_spelled : (xs : List ℕ) → filled xs ≡ spelled xs
filled_spelled xs = filled_is xs ∙ spelled_append xs (replicate (8 - length xs) 0) ∙ simp (spelled_zeros, mul-zero, add-zero)

-- a byte is eight bits
pub pow_bytes : (j : ℕ) → 2 ^ (8 * j) ≡ 256 ^ j
pow_bytes zero = simp pow-zero
pow_bytes (suc j) = rw (mul-suc 8 j, pow-add 2 (8 * j) 8, pow_bytes j, pow-suc 256 j)

-- a field without its first j bytes
field_without : (j k : ℕ) (xs : List ℕ) (at : ℕ) → AllBytes xs → at + j ≤ length xs → le (j + k) xs at / 256 ^ j ≡ le k xs (at + j)
field_without j k xs at b h =
    ap (λ (n : ℕ). n / 256 ^ j) (le_join j k xs at h ∙ add_comm _ _ ∙ ap (λ (n : ℕ). n + le j xs at) (mul_comm _ _))
    ∙ digits_div (le k xs (at + j)) (le_lt j xs at b)

-- the last m bytes, from a field that ends there
last_bytes : (k m : ℕ) (xs : List ℕ) → AllBytes xs → m ≤ k → k ≤ length xs → le k xs (length xs - k) / 256 ^ (k - m) ≡ filled (drop (length xs - m) xs)
unfolding le
last_bytes k m xs b h l =
    let n : ℕ = length xs in
    let e : k ≡ k - m + m = omega arith in
    let f : n - k + (k - m) ≡ n - m = omega arith in
    ap (λ (x : ℕ). le x xs (n - k) / 256 ^ (k - m)) e
    ∙ field_without (k - m) m xs (n - k) b (omega arith)
    ∙ ap (le m xs) f
    ∙ ap spelled (take_all m (drop (n - m) xs) (simp length-drop (omega arith)))
    ∙ sym (filled_spelled (drop (n - m) xs))

-- ---- the rest of a key

module _ (key : List ℕ) where
  -- of whole words there is none
  pub rest_none : length key % 8 ≡ 0 → filled (drop (8 * (length key / 8)) key) ≡ 0
  unfolding spelled
  rest_none h =
      let e : 8 * (length key / 8) ≡ length key = omega arith in
      filled_spelled (drop (8 * (length key / 8)) key) ∙ ap (λ (n : ℕ). spelled (drop n key)) e ∙ ap spelled (drop-length key)

  -- of eight bytes or more it is the last eight without those that the last whole word has
  pub rest_last : AllBytes key → 8 ≤ length key → le 8 key (length key - 8) / 256 ^ (8 - length key % 8) ≡ filled (drop (8 * (length key / 8)) key)
  rest_last b h =
      let e : length key - length key % 8 ≡ 8 * (length key / 8) = omega arith in
      last_bytes 8 (length key % 8) key b (omega arith) h ∙ ap (λ (n : ℕ). filled (drop n key)) e

  -- of k to 2k bytes it is the first k and above them the last k without those that both have
  pub rest_ends : (k : ℕ) {first last upper : ℕ} → AllBytes key → k ≤ length key → length key ≤ 2 * k → first ≡ le k key 0 → last ≡ le k key (length key - k)
      → upper ≡ last / 256 ^ (2 * k - length key) → first + 256 ^ k * upper ≡ filled key
  unfolding le
  rest_ends k b h l e₁ e₂ e₃ =
      let n : ℕ = length key in
      let f : 2 * k - n ≡ k - (n - k) = omega arith in
      let g : n - (n - k) ≡ k = omega arith in
      rw (
        e₁,
        e₃ ∙ ap (λ (x : ℕ). x / 256 ^ (2 * k - n)) e₂ ∙ ap (λ (x : ℕ). le k key (n - k) / 256 ^ x) f ∙ last_bytes k (n - k) key b (omega arith) h
            ∙ ap (λ (x : ℕ). filled (drop x key)) g ∙ filled_spelled (drop k key),
      )
      (ap (λ (x : ℕ). le k key 0 + 256 ^ x * spelled (drop k key)) (sym (length-take-le k key h))
      ∙ sym (spelled_append (take k key) (drop k key)) ∙ ap spelled (take-append-drop k key) ∙ sym (filled_spelled key))

-- of one byte it is that byte
pub rest_byte : (key : List ℕ) → length key ≡ 1 → get_or key 0 0 ≡ filled key
unfolding spelled
rest_byte [] h = absurd (omega arith)
rest_byte (x ∷ []) h = sym (filled_spelled (x ∷ []) ∙ add-zero x)
rest_byte (x ∷ y ∷ ys) h = absurd (omega arith)
