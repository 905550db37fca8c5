-- What the header's rules say, a test at a time; the header written and read again; where pilots and slots stand in a body whose header passed. Assumes nothing.
use Prim.Native.Nat.{ℕ, suc, ◌+◌, ◌-◌, ◌*◌, ◌^◌, ◌<◌, ◌≤◌}
use native.Mathlib.Nat.{suc-ne-zero}
use native.Mathlib.Omega.{arith}
use mathlib.Core.Path.{◌≡◌, refl, sym, ap, ap₂, ◌∙◌}
use mathlib.Core.List.{List, [], ◌∷◌, ◌++◌, append_assoc}
use mathlib.Core.Bool.{Bool, true, false, not, cond}
use lib.ListN.{length, take, length-append}
use lib.Dec.{ltb, leb, eqb, lit<}
use borrow.Author.Tests.{ltb-false, leb-false, eqb-true, eqb-false, not-false, lt-ltb, le-ltb, lt-leb, eq-eqb, ne_eqb}
use Rattle.laws.specs.Refusals.{cause, or_else}
use Rattle.laws.specs.Refusals.Numbered.{numbered_none, numbered_more}
use Rattle.laws.proofs.RefusalLaws.{first_append, or_else_zero}
use Rattle.words.specs.Field.{le, bytes_of, splice}
use Rattle.words.proofs.Laws.{length_bytes_of, splice_then}
use Rattle.words.proofs.Ordered.{same_self}
use Rattle.words.proofs.WrittenLaws.{le_written}
use Rattle.words.specs.Part.{same_as}
use Rattle.mixing.specs.Mixing.{bucket_of, position_of, position_of_lt}
use Rattle.mixing.specs.Slots.{buckets_of, direct, slot_by}
use Rattle.mixing.proofs.SlotLaws.{some_buckets, few_buckets}
use Rattle.layout.specs.declared.Header.{Header}
use Rattle.layout.specs.Layout.{index_magic, seed_in, keys_in, buckets_in, arena_in, arena_start, header_bytes, magic_refusal, dimension_causes, dimension_refusal, header_refusal, header_in, pilot_of, slot_at, direct_past, slot_of, slot_place}

-- a test that refuses, and did not
pub passes : (t : Bool) (r x : ℕ) → cond t (suc r) x ≡ 0 → (t ≡ false) × (x ≡ 0)
passes true r x e = absurd (suc-ne-zero _ e)
passes false r x e = (refl, e)

-- ---- 20 and 21

pub magic_short : (body : List ℕ) → length body < 32 → magic_refusal body ≡ 20
unfolding magic_refusal
magic_short body h = rw (lt-ltb (length body) 32 h)

pub magic_is : (body : List ℕ) (t : Bool) → 32 ≤ length body → same_as (take 8 body) index_magic ≡ t → magic_refusal body ≡ cond (not t) 20 0
unfolding magic_refusal
magic_is body t h e = rw (le-ltb (length body) 32 h, e)

pub magic_long : (body : List ℕ) → magic_refusal body ≡ 0 → 32 ≤ length body
unfolding magic_refusal
magic_long body e = ltb-false (length body) 32 (passes (ltb (length body) 32) 19 _ e).0

-- what 21 says of the dimensions
pub record Dimensions (n b arena : ℕ) : Type 0 where
  pub some : 0 < n
  pub few : n < direct
  pub buckets : b ≡ buckets_of n
  pub filled : 0 < b
  pub start : arena ≡ slot_at b n

dimensions : (n b arena : ℕ) → dimension_refusal n b arena ≡ 0 → Dimensions n b arena
unfolding dimension_refusal
dimensions n b arena e =
    let e1 = passes (eqb n 0) 20 _ e in
    let e2 = passes (leb direct n) 20 _ e1.1 in
    let e3 = passes (not (eqb b (buckets_of n))) 20 _ e2.1 in
    let e4 = passes (not (eqb arena (slot_at b n))) 20 _ e3.1 in
    let z = eqb-false n 0 e1.0 in
    let k : b ≡ buckets_of n = eqb-true _ _ (not-false _ e3.0) in
    record {
      some = omega arith;
      few = leb-false _ _ e2.0;
      buckets = k;
      filled = omega (arith, some_buckets n (omega arith));
      start = eqb-true _ _ (not-false _ e4.0);
    }

header_is : (body : List ℕ) → header_refusal body ≡ or_else (magic_refusal body) (or_else (dimension_refusal (keys_in body) (buckets_in body) (arena_in body)) (cond (leb (length body) (arena_in body)) 21 0))
unfolding header_refusal dimension_refusal
header_is body =
    ap (or_else (magic_refusal body)) (first_append (dimension_causes (keys_in body) (buckets_in body) (arena_in body)) (cause (leb (length body) (arena_in body)) 21 ∷ []) (numbered_more (lit< tt) (numbered_more (lit< tt) (numbered_more (lit< tt) (numbered_more (lit< tt) numbered_none)))))

-- what 20 and 21 say of a body
pub record Headed (body : List ℕ) : Type 0 where
  pub long : 32 ≤ length body
  pub dims : Dimensions (keys_in body) (buckets_in body) (arena_in body)
  pub inside : arena_in body < length body

pub headed : (body : List ℕ) → header_refusal body ≡ 0 → Headed body
headed body e =
    let s = or_else_zero (magic_refusal body) _ (sym (header_is body) ∙ e) in
    let d = or_else_zero (dimension_refusal (keys_in body) (buckets_in body) (arena_in body)) _ s.1 in
    record { long = magic_long body s.0; dims = dimensions _ _ _ d.0; inside = leb-false _ _ (passes (leb (length body) (arena_in body)) 20 0 d.1).0 }

-- the fields of a header that was read
module _ (body : List ℕ) {h : Header} (read : h ≡ header_in body) where
  pub seed_is : h.seed ≡ seed_in body
  seed_is = ap (λ (x : Header). x.seed) read

  pub keys_are : h.keys ≡ keys_in body
  keys_are = ap (λ (x : Header). x.keys) read

  pub buckets_are : h.buckets ≡ buckets_in body
  buckets_are = ap (λ (x : Header). x.buckets) read

  pub arena_is : h.arena ≡ arena_in body
  arena_is = ap (λ (x : Header). x.arena) read

pub header_on : (body : List ℕ) (m r : ℕ) (h : Header) → m ≡ magic_refusal body → m ≡ 0 → h ≡ header_in body
    → r ≡ dimension_refusal h.keys h.buckets h.arena → header_refusal body ≡ or_else r (cond (leb (length body) h.arena) 21 0)
header_on body m r h e z eh er = rw (header_is body, ← e, z, er, eh)

-- ---- the header as it is written, and read again

pub header_long : (seed n : ℕ) → length (header_bytes seed n) ≡ 32
unfolding header_bytes
header_long seed n = simp (length-append, length_bytes_of)

-- the arena start, by the number of buckets
pub start_is : (n b : ℕ) → b ≡ buckets_of n → arena_start n ≡ 32 + 4 * b + 12 * n
unfolding arena_start
start_is n b e = omega arith

pub header_written : (o0 o1 o2 o3 o4 o5 : List ℕ) (n seed b start : ℕ) → 32 ≤ length o0 → b ≡ buckets_of n → start ≡ arena_start n → o1 ≡ splice o0 0 index_magic → o2 ≡ splice o1 8 (bytes_of 8 seed)
    → o3 ≡ splice o2 16 (bytes_of 4 n) → o4 ≡ splice o3 20 (bytes_of 4 b) → o5 ≡ splice o4 24 (bytes_of 8 start) → o5 ≡ splice o0 0 (header_bytes seed n)
unfolding header_bytes
header_written o0 o1 o2 o3 o4 o5 n seed b start h eb es e1 e2 e3 e4 e5 =
    let m2 = index_magic ++ bytes_of 8 seed in
    let m3 = m2 ++ bytes_of 4 n in
    let m4 = m3 ++ bytes_of 4 b in
    let l2 : length m2 ≡ 16 = simp length_bytes_of in
    let l3 : length m3 ≡ 20 = simp (length-append, length_bytes_of) in
    let l4 : length m4 ≡ 24 = simp (length-append, length_bytes_of) in
    let q2 : o2 ≡ splice o0 0 m2 = e2 ∙ ap (λ (z : List ℕ). splice z 8 (bytes_of 8 seed)) e1 ∙ splice_then o0 0 index_magic 8 (bytes_of 8 seed) (omega arith) refl in
    let q3 : o3 ≡ splice o0 0 m3 = e3 ∙ ap (λ (z : List ℕ). splice z 16 (bytes_of 4 n)) q2 ∙ splice_then o0 0 m2 16 (bytes_of 4 n) (omega arith) (omega arith) in
    let q4 : o4 ≡ splice o0 0 m4 = e4 ∙ ap (λ (z : List ℕ). splice z 20 (bytes_of 4 b)) q3 ∙ splice_then o0 0 m3 20 (bytes_of 4 b) (omega arith) (omega arith) in
    e5 ∙ ap (λ (z : List ℕ). splice z 24 (bytes_of 8 start)) q4 ∙ splice_then o0 0 m4 24 (bytes_of 8 start) (omega arith) (omega arith) ∙ ap (splice o0 0) (simp append_assoc (rw (eb, es)))

module _ (seed n : ℕ) (few : n < 2 ^ 32) (rest : List ℕ) where
  pub seed_read : seed < 2 ^ 64 → seed_in (header_bytes seed n ++ rest) ≡ seed
  unfolding header_bytes
  seed_read h = le_written 8 seed 8 (header_bytes seed n ++ rest) index_magic (bytes_of 4 n ++ (bytes_of 4 (buckets_of n) ++ (bytes_of 8 (arena_start n) ++ rest))) h refl (simp append_assoc)

  pub keys_read : keys_in (header_bytes seed n ++ rest) ≡ n
  unfolding header_bytes
  keys_read =
      le_written 4 n 16 (header_bytes seed n ++ rest) (index_magic ++ bytes_of 8 seed) (bytes_of 4 (buckets_of n) ++ (bytes_of 8 (arena_start n) ++ rest)) few
      (simp length_bytes_of) (simp append_assoc)

  pub buckets_read : buckets_in (header_bytes seed n ++ rest) ≡ buckets_of n
  unfolding header_bytes
  buckets_read =
      le_written 4 (buckets_of n) 20 (header_bytes seed n ++ rest) (index_magic ++ (bytes_of 8 seed ++ bytes_of 4 n)) (bytes_of 8 (arena_start n) ++ rest) (omega (arith, few_buckets n))
      (simp (length-append, length_bytes_of)) (simp append_assoc)

  pub start_read : arena_in (header_bytes seed n ++ rest) ≡ arena_start n
  unfolding header_bytes
  start_read =
      le_written 8 (arena_start n) 24 (header_bytes seed n ++ rest) (index_magic ++ (bytes_of 8 seed ++ (bytes_of 4 n ++ bytes_of 4 (buckets_of n)))) rest (omega (arith, few_buckets n, start_is n (buckets_of n) refl))
      (simp (length-append, length_bytes_of)) (simp append_assoc)

  -- a header that was written passes, where its keys are some and fewer than 2^31, and its arena starts inside
  pub header_fine : 0 < n → n < direct → arena_start n < length (header_bytes seed n ++ rest) → header_refusal (header_bytes seed n ++ rest) ≡ 0
  unfolding header_bytes dimension_refusal arena_start
  header_fine some low inside =
      let ne : n ≡ 0 → ⊥ = λ z. omega arith in
      header_on _ 0 0 (header_in (header_bytes seed n ++ rest)) (sym (magic_is _ true (omega arith) (same_self index_magic))) refl refl
      (rw (keys_read, buckets_read, start_read, ne_eqb n 0 ne, lt-leb direct n low, eq-eqb (buckets_of n) (buckets_of n) refl, eq-eqb (arena_start n) (arena_start n) refl))
      ∙ rw (start_read, lt-leb _ _ inside)

-- ---- pilots and slots

-- a pilot that is not past the end gives a slot below n
slot_below : (n pilot h : ℕ) → 0 < n → direct_past n pilot ≡ false → slot_by h pilot n < n
unfolding slot_by
slot_below n pilot h p e = go (ltb pilot direct) refl
  where
    below : pilot < direct + n
    below = leb-false _ _ e

    go : (t : Bool) → ltb pilot direct ≡ t → cond t (position_of h pilot n) (pilot - direct) < n
    go true q = position_of_lt h pilot n p
    go false q = omega (arith, below, ltb-false pilot direct q)

module _ (body : List ℕ) (h : ℕ) where
  pub pilot_is : (b i r : ℕ) → b ≡ buckets_in body → i ≡ bucket_of h b → r ≡ le 4 body (32 + 4 * i) → r ≡ pilot_of body h
  unfolding pilot_of
  pilot_is b i r eb ei er = rw (← eb, ← ei) er

  -- the slot, and where it stands
  pub slot_is : (n pilot i : ℕ) → n ≡ keys_in body → pilot ≡ pilot_of body h → i ≡ slot_by h pilot n → i ≡ slot_of body h
  slot_is n pilot i en ep ei = ei ∙ ap₂ (slot_by h) ep en

  pub slot_stands : (b i r : ℕ) → b ≡ buckets_in body → i ≡ slot_of body h → r ≡ slot_at b i → r ≡ slot_place body (slot_of body h)
  unfolding slot_place
  slot_stands b i r eb ei er = er ∙ ap₂ slot_at eb ei

  module _ (d : Headed body) (near : direct_past (keys_in body) (pilot_of body h) ≡ false) where
    pub slot_low : slot_of body h < keys_in body
    slot_low = slot_below (keys_in body) (pilot_of body h) h d.dims.some near

    -- the slot stands before the arena
    pub slot_inside : slot_place body (slot_of body h) + 12 ≤ arena_in body
    unfolding slot_place
    slot_inside = omega (arith, slot_low)
