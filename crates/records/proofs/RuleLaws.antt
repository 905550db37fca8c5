-- The laws of the rules of a key, of a version and of an entry: which number is given, and what a passed rule says, both ways. Assumes nothing.
use Prim.Native.Nat.{ℕ, zero, suc, ◌+◌, ◌-◌, ◌*◌, ◌<◌, ◌≤◌}
use native.Mathlib.Nat.{not-suc-le-zero, zero-lt-suc}
use native.Mathlib.Omega.{arith}
use mathlib.Core.Path.{◌≡◌, refl, sym, ap, ◌∙◌}
use mathlib.Core.List.{List}
use mathlib.Core.Bool.{Bool, true, false, not, cond}
use lib.ListN.{length}
use lib.Dec.{ltb}
use borrow.Author.Tests.{ltb-false, eqb-false, not-false, lt-ltb, le-ltb, eq-eqb, ne_eqb}
use Rattle.laws.specs.Refusals.{First, None, Numbered}
use Rattle.laws.proofs.RefusalLaws.{first_given, first_only, none_given, none_only}
use Rattle.laws.specs.Refusals.None.{none_here, none_more}
use Rattle.laws.specs.Refusals.Numbered.{numbered_none, numbered_more}
use Rattle.laws.proofs.RefusalLaws.{or_else_stop, or_else_zero}
use Rattle.numbers.specs.Limits.{most_key_bytes, most_value_bytes}
use Rattle.std.specs.declared.cmp.Ordering.{Ordering}
use Rattle.words.specs.Part.{order_of}
use Rattle.records.specs.Limits.{DataLength}
use Rattle.records.specs.Places.{key_length, version_count, key_at, first_version, next_entry, sequence_at, kind_at, length_at, offset_at}
use Rattle.std.specs.Ordering.{is_lt}
use Rattle.records.specs.Rules.{key_rises, key_causes, key_refusal, bad_kind, past_data, full_tombstone, sequence_falls, version_causes, version_refusal, versions_refusal, entry_versions_refusal, entry_refusal}

not_cond : (b : Bool) → cond {A = ℕ} b 0 29 ≡ cond (not b) 29 0
not_cond true = refl
not_cond false = refl

-- ---- 23 to 25: a key

module _ (bytes : List ℕ) (prev p : ℕ) where
  pub key_short : length bytes < p + 8 → 23 ≡ key_refusal bytes prev p
  unfolding key_refusal
  key_short h = rw (lt-ltb (length bytes) (p + 8) h)

  module _ (head : p + 8 ≤ length bytes) where
    pub key_long : most_key_bytes < key_length bytes p → 24 ≡ key_refusal bytes prev p
    unfolding key_refusal
    key_long h = rw (le-ltb (length bytes) (p + 8) head, lt-ltb most_key_bytes (key_length bytes p) h)

    module _ (small : key_length bytes p ≤ most_key_bytes) where
      pub key_out : length bytes < first_version bytes p → 24 ≡ key_refusal bytes prev p
      unfolding key_refusal
      key_out h = rw (le-ltb (length bytes) (p + 8) head, le-ltb most_key_bytes (key_length bytes p) small, lt-ltb (length bytes) (first_version bytes p) h)

      module _ (whole : first_version bytes p ≤ length bytes) where
        pub key_none : version_count bytes p ≡ 0 → 24 ≡ key_refusal bytes prev p
        unfolding key_refusal
        key_none e =
            rw (le-ltb (length bytes) (p + 8) head, le-ltb most_key_bytes (key_length bytes p) small, le-ltb (length bytes) (first_version bytes p) whole, eq-eqb (version_count bytes p) 0 e)

        pub key_falls : (version_count bytes p ≡ 0 → ⊥) → key_rises bytes prev p ≡ false → 25 ≡ key_refusal bytes prev p
        unfolding key_refusal
        key_falls n e =
            rw (le-ltb (length bytes) (p + 8) head, le-ltb most_key_bytes (key_length bytes p) small, le-ltb (length bytes) (first_version bytes p) whole, ne_eqb (version_count bytes p) 0 n, e)

  -- a number is given exactly where its cause is the first that holds
  pub key_exact : (n : ℕ) → 0 < n → key_refusal bytes prev p ≡ n → First n (key_causes bytes prev p)
  unfolding key_refusal
  key_exact n h e = first_only n (key_causes bytes prev p) h e

  pub key_given : (n : ℕ) → First n (key_causes bytes prev p) → key_refusal bytes prev p ≡ n
  unfolding key_refusal
  key_given n f = first_given f

  pub key_numbered : Numbered (key_causes bytes prev p)
  key_numbered =
      numbered_more (zero-lt-suc 22) (numbered_more (zero-lt-suc 23) (numbered_more (zero-lt-suc 23) (numbered_more (zero-lt-suc 23) (numbered_more (zero-lt-suc 24) numbered_none))))

-- what the rules of a key say of the one at p
pub record Keyed (bytes : List ℕ) (prev p : ℕ) : Type 0 where
  pub head : p + 8 ≤ length bytes
  pub small : key_length bytes p ≤ most_key_bytes
  pub whole : first_version bytes p ≤ length bytes
  pub some : version_count bytes p ≡ 0 → ⊥
  pub rising : key_rises bytes prev p ≡ true

module _ (bytes : List ℕ) (prev p : ℕ) where
  pub keyed : key_refusal bytes prev p ≡ 0 → Keyed bytes prev p
  unfolding key_refusal
  keyed e = go (none_only (key_numbered bytes prev p) e)
    where
      go : None (key_causes bytes prev p) → Keyed bytes prev p
      go (none_more a (none_more b (none_more c (none_more d (none_more r none_here))))) =
          record { head = ltb-false _ _ a; small = ltb-false _ _ b; whole = ltb-false _ _ c; some = eqb-false _ _ d; rising = not-false _ r }

  pub key_passes : Keyed bytes prev p → key_refusal bytes prev p ≡ 0
  unfolding key_refusal
  key_passes k =
      none_given
      (none_more (le-ltb (length bytes) (p + 8) k.head)
      (none_more (le-ltb most_key_bytes (key_length bytes p) k.small)
      (none_more (le-ltb (length bytes) (first_version bytes p) k.whole)
      (none_more (ne_eqb (version_count bytes p) 0 k.some) (none_more (ap not k.rising) none_here)))))

-- ---- 27 to 29: a version

module _ (bytes : List ℕ) (test : DataLength) (prev p : ℕ) where
  pub version_short : length bytes < p + 21 → 27 ≡ version_refusal bytes test prev p
  unfolding version_refusal
  version_short h = rw (lt-ltb (length bytes) (p + 21) h)

  module _ (fits : p + 21 ≤ length bytes) where
    pub version_kind : bad_kind (kind_at bytes p) ≡ true → 28 ≡ version_refusal bytes test prev p
    unfolding version_refusal
    version_kind b = rw (le-ltb (length bytes) (p + 21) fits, b)

    module _ (known : bad_kind (kind_at bytes p) ≡ false) where
      pub version_long : most_value_bytes < length_at bytes p → 29 ≡ version_refusal bytes test prev p
      unfolding version_refusal
      version_long h = rw (le-ltb (length bytes) (p + 21) fits, known, lt-ltb most_value_bytes (length_at bytes p) h)

      module _ (small : length_at bytes p ≤ most_value_bytes) (size offset : ℕ) (is : size ≡ length_at bytes p) (iso : offset ≡ offset_at bytes p) where
        pub version_out : past_data test offset size ≡ true → 29 ≡ version_refusal bytes test prev p
        unfolding version_refusal
        version_out e = rw (le-ltb (length bytes) (p + 21) fits, known, le-ltb most_value_bytes (length_at bytes p) small, ← is, ← iso, e)

        module _ (inside : past_data test offset size ≡ false) where
          pub version_full : full_tombstone (kind_at bytes p) size ≡ true → 29 ≡ version_refusal bytes test prev p
          unfolding version_refusal
          version_full e = rw (le-ltb (length bytes) (p + 21) fits, known, le-ltb most_value_bytes (length_at bytes p) small, ← is, ← iso, inside, e)

          pub version_falls : (b : Bool) → full_tombstone (kind_at bytes p) size ≡ false → sequence_falls bytes prev p ≡ b → cond b 0 29 ≡ version_refusal bytes test prev p
          unfolding version_refusal
          version_falls b e f =
              rw (le-ltb (length bytes) (p + 21) fits, known, le-ltb most_value_bytes (length_at bytes p) small, ← is, ← iso, inside, e, f) (not_cond b)

  -- a number is given exactly where its cause is the first that holds
  pub version_exact : (n : ℕ) → 0 < n → version_refusal bytes test prev p ≡ n → First n (version_causes bytes test prev p)
  unfolding version_refusal
  version_exact n h e = first_only n (version_causes bytes test prev p) h e

  pub version_given : (n : ℕ) → First n (version_causes bytes test prev p) → version_refusal bytes test prev p ≡ n
  unfolding version_refusal
  version_given n f = first_given f

  pub version_numbered : Numbered (version_causes bytes test prev p)
  version_numbered =
      numbered_more (zero-lt-suc 26) (numbered_more (zero-lt-suc 27) (numbered_more (zero-lt-suc 28) (numbered_more (zero-lt-suc 28) (numbered_more (zero-lt-suc 28) (numbered_more (zero-lt-suc 28) numbered_none)))))

-- what the rules of a version say of the one at p
pub record Versioned (bytes : List ℕ) (test : DataLength) (prev p : ℕ) : Type 0 where
  pub fits : p + 21 ≤ length bytes
  pub kind : bad_kind (kind_at bytes p) ≡ false
  pub small : length_at bytes p ≤ most_value_bytes
  pub inside : past_data test (offset_at bytes p) (length_at bytes p) ≡ false
  pub empty : full_tombstone (kind_at bytes p) (length_at bytes p) ≡ false
  pub falling : sequence_falls bytes prev p ≡ true

module _ (bytes : List ℕ) (test : DataLength) (prev p : ℕ) where
  pub versioned : version_refusal bytes test prev p ≡ 0 → Versioned bytes test prev p
  unfolding version_refusal
  versioned e = go (none_only (version_numbered bytes test prev p) e)
    where
      go : None (version_causes bytes test prev p) → Versioned bytes test prev p
      go (none_more a (none_more b (none_more c (none_more d (none_more r (none_more f none_here)))))) =
          record { fits = ltb-false _ _ a; kind = b; small = ltb-false _ _ c; inside = d; empty = r; falling = not-false _ f }

  pub version_passes : Versioned bytes test prev p → version_refusal bytes test prev p ≡ 0
  unfolding version_refusal
  version_passes v =
      none_given
      (none_more (le-ltb (length bytes) (p + 21) v.fits)
      (none_more v.kind
      (none_more (le-ltb most_value_bytes (length_at bytes p) v.small)
      (none_more v.inside (none_more v.empty (none_more (ap not v.falling) none_here))))))

  -- ---- the versions, one at a time

  module _ (k : ℕ) (some : 0 < k) where
    one_less : k ≡ suc (k - 1)
    one_less = omega arith

    pub versions_stop : (r : ℕ) → r ≡ version_refusal bytes test prev p → (r ≡ 0 → ⊥) → r ≡ versions_refusal bytes test prev p k
    unfolding versions_refusal
    versions_stop r e n = sym (ap (versions_refusal bytes test prev p) one_less ∙ rw (← e) (or_else_stop r _ n))

    pub versions_on : version_refusal bytes test prev p ≡ 0 → versions_refusal bytes test prev p k ≡ versions_refusal bytes test p (p + 21) (k - 1)
    unfolding versions_refusal
    versions_on e = ap (versions_refusal bytes test prev p) one_less ∙ rw e

  pub versions_end : (k : ℕ) → k ≤ 0 → 0 ≡ versions_refusal bytes test prev p k
  unfolding versions_refusal
  versions_end zero h = refl
  versions_end (suc k) h = absurd (not-suc-le-zero h)

pub versions_fit : (bytes : List ℕ) (test : DataLength) (prev p k : ℕ) → p ≤ length bytes → versions_refusal bytes test prev p k ≡ 0 → p + 21 * k ≤ length bytes
unfolding versions_refusal
versions_fit bytes test prev p zero h e = omega arith
versions_fit bytes test prev p (suc k) h e =
    let s = or_else_zero (version_refusal bytes test prev p) (versions_refusal bytes test p (p + 21) k) e in
    let f = versions_fit bytes test p (p + 21) k (versioned bytes test prev p s.0).fits s.1 in
    omega arith

-- ---- an entry

-- what the rules of an entry say of the one at p
pub record Entered (slots : ℕ → ℕ) (bytes : List ℕ) (test : DataLength) (prev p : ℕ) : Type 0 where
  pub key : Keyed bytes prev p
  pub slot : slots p ≡ 0
  pub versions : entry_versions_refusal bytes test p ≡ 0
  pub next : next_entry bytes p ≤ length bytes

module _ (slots : ℕ → ℕ) (bytes : List ℕ) (test : DataLength) (prev p : ℕ) where
  pub entered : entry_refusal slots bytes test prev p ≡ 0 → Entered slots bytes test prev p
  unfolding entry_refusal
  entered e =
      let s = or_else_zero (key_refusal bytes prev p) _ e in
      let t = or_else_zero (slots p) _ s.1 in
      let k = keyed bytes prev p s.0 in
      record { key = k; slot = t.0; versions = t.1; next = versions_fit bytes test (first_version bytes p) (first_version bytes p) (version_count bytes p) k.whole t.1 }

  pub entry_passes : Keyed bytes prev p → slots p ≡ 0 → entry_versions_refusal bytes test p ≡ 0 → entry_refusal slots bytes test prev p ≡ 0
  unfolding entry_refusal
  entry_passes k s v = rw (key_passes bytes prev p k, s) v

  -- the key's refusal, the slot's, the versions', the first that is one
  pub entry_key : (r : ℕ) → r ≡ key_refusal bytes prev p → (r ≡ 0 → ⊥) → r ≡ entry_refusal slots bytes test prev p
  unfolding entry_refusal
  entry_key r e n = sym (rw (← e) (or_else_stop r _ n))

  pub entry_slot : (r : ℕ) → key_refusal bytes prev p ≡ 0 → r ≡ slots p → (r ≡ 0 → ⊥) → r ≡ entry_refusal slots bytes test prev p
  unfolding entry_refusal
  entry_slot r k e n = sym (rw (k, ← e) (or_else_stop r _ n))

  pub entry_versions : (r : ℕ) → key_refusal bytes prev p ≡ 0 → slots p ≡ 0 → r ≡ entry_versions_refusal bytes test p → r ≡ entry_refusal slots bytes test prev p
  unfolding entry_refusal
  entry_versions r k s e = sym (rw (k, s) (sym e))

-- ---- what stands before

pub key_first : (bytes : List ℕ) (prev p : ℕ) → prev ≡ p → key_rises bytes prev p ≡ true
unfolding key_rises
key_first bytes prev p e = rw (eq-eqb prev p e)

pub key_next : (bytes : List ℕ) (prev p : ℕ) → (prev ≡ p → ⊥) → key_rises bytes prev p ≡ is_lt (order_of (key_at bytes prev) (key_at bytes p))
unfolding key_rises
key_next bytes prev p n = rw (ne_eqb prev p n)

-- two keys that are compared
pub key_compared : (bytes : List ℕ) (prev p : ℕ) (o : Ordering) → (prev ≡ p → ⊥) → order_of (key_at bytes prev) (key_at bytes p) ≡ o → is_lt o ≡ key_rises bytes prev p
key_compared bytes prev p o d e = sym (key_next bytes prev p d ∙ ap is_lt e)

pub sequence_first : (bytes : List ℕ) (prev p : ℕ) → prev ≡ p → sequence_falls bytes prev p ≡ true
unfolding sequence_falls
sequence_first bytes prev p e = rw (eq-eqb prev p e)

pub sequence_next : (bytes : List ℕ) (prev p : ℕ) → (prev ≡ p → ⊥) → sequence_falls bytes prev p ≡ ltb (sequence_at bytes p) (sequence_at bytes prev)
unfolding sequence_falls
sequence_next bytes prev p n = rw (ne_eqb prev p n)
