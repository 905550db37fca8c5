-- The text is `refused R` exactly for R's first cause, with R 16 or from 20 to 30, and else that of the table. Assumes nothing.
use Prim.Native.Nat.{ℕ, zero, suc, ◌<◌, ◌≤◌}
use native.Mathlib.Omega.{arith}
use mathlib.Core.Path.{◌≡◌, refl, sym, ap, ◌∙◌, subst}
use mathlib.Core.Bool.{Bool, true, false, cond}
use mathlib.Core.List.{List, ◌++◌, append_cancel_right}
use mathlib.Core.Logic.{◌⊎◌, inl, inr, ⊎_elim}
use lib.Dec.{ltb}
use lib.ListN.{length, get_or, drop}
use borrow.Author.Tests.{ltb-true, ltb-false, le-ltb}
use Rattle.laws.specs.Refusals.{or_else}
use Rattle.numbers.specs.Numbers.{number_of}
use Rattle.text.specs.Text.{decimal, read_from, field, named}
use Rattle.text.proofs.TextLaws.{decimal_read}
use Rattle.records.specs.Model.{Entry}
use Rattle.point.specs.Validate.{validate_of}
use Rattle.point.specs.Table.{table_of}
use Rattle.point.proofs.CauseLaws.{validate_cause, cause_validate, stops_between}
use Rattle.lines.specs.Shown.{Rule}
use Rattle.lines.specs.Listing.{newline, listing_header, table_text, refused_text, limit_in, data_length_in, body_in, size_refusal, listing_refusal, text_by, text_of}
use Rattle.lines.specs.Causes.{ListingStops, Listable}
use Rattle.lines.specs.Causes.ListingStops.{too_short, too_long, body_stops}
use Rattle.lines.proofs.InputLaws.{size_short, size_long, unrefused, listable_long, text_refused}

-- THEOREM: the listing's numbers are 16 and 20 to 30
pub stops_numbers : {input : List ℕ} {n : ℕ} → ListingStops input n → (n ≡ 16) ⊎ ((20 ≤ n) × (n ≤ 30))
stops_numbers (too_short h) = inl refl
stops_numbers (too_long h) = inl refl
stops_numbers (body_stops h g s) = inr (stops_between s)

stops_some : {input : List ℕ} {n : ℕ} → ListingStops input n → n ≡ 0 → ⊥
stops_some (too_short h) z = omega arith
stops_some (too_long h) z = omega arith
stops_some (body_stops h g s) z = omega (arith, (stops_between s).0)

-- ---- the listing's number, exactly for its cause

validated_number : (input : List ℕ) → 16 ≤ length input → length input ≤ 65536
    → listing_refusal input ≡ number_of (validate_of (body_in input) (data_length_in input))
unfolding listing_refusal size_refusal
validated_number input h g = rw (le-ltb (length input) 16 h, le-ltb 65536 (length input) g)

refusal_stops : (input : List ℕ) (n : ℕ) → 0 < n → listing_refusal input ≡ n → ListingStops input n
unfolding listing_refusal size_refusal
refusal_stops input n h e = go (ltb (length input) 16) (ltb 65536 (length input)) refl refl e
  where
    go : (a b : Bool) → ltb (length input) 16 ≡ a → ltb 65536 (length input) ≡ b
        → or_else (cond a 16 (cond b 16 0)) (number_of (validate_of (body_in input) (data_length_in input))) ≡ n → ListingStops input n
    go true b p q f = subst (ListingStops input) f (too_short (ltb-true _ _ p))
    go false true p q f = subst (ListingStops input) f (too_long (ltb-true _ _ q))
    go false false p q f = body_stops (ltb-false _ _ p) (ltb-false _ _ q) (validate_cause (body_in input) (data_length_in input) n h f)

stops_refusal : {input : List ℕ} {n : ℕ} → ListingStops input n → listing_refusal input ≡ n
stops_refusal {input} (too_short h) = sym (size_short input h)
stops_refusal {input} (too_long h) = sym (size_long input (omega arith) h)
stops_refusal {input} {n} (body_stops h g s) = validated_number input h g ∙ cause_validate (body_in input) (data_length_in input) n s

-- and it is small
pub refusal_low : (input : List ℕ) (n : ℕ) → n ≡ listing_refusal input → n < 256
refusal_low input zero e = omega arith
refusal_low input (suc n) e =
    ⊎_elim (λ q. omega (arith, q)) (λ q. omega (arith, q.1)) (stops_numbers (refusal_stops input (suc n) (omega arith) (sym e)))

-- ---- `refused R` shows its number, and is no table's text

refused_number : (m n : ℕ) → refused_text m ≡ refused_text n → m ≡ n
unfolding refused_text named field
refused_number m n e =
    let d : decimal m ++ newline ≡ decimal n ++ newline = ap (drop {A = ℕ} 8) e in
    sym (decimal_read m) ∙ ap (read_from 0) (append_cancel_right (decimal m) (decimal n) newline d) ∙ decimal_read n

-- a table's text begins with `l`, `refused R` with `r`
table_unrefused : (rule : Rule) (limit : ℕ) (t : List Entry) (n : ℕ) → table_text rule limit t ≡ refused_text n → ⊥
unfolding table_text listing_header refused_text named
table_unrefused rule limit t n e = let z : ◌≡◌ {A = ℕ} 108 114 = ap (λ (l : List ℕ). get_or l 0 0) e in omega arith

-- ---- the text

module _ (rule : Rule) where
  -- THEOREM: the text is `refused n` only for n's cause
  pub refused_stops : (input : List ℕ) (n : ℕ) → text_of rule input ≡ refused_text n → ListingStops input n
  unfolding text_of
  refused_stops input n e = go (listing_refusal input) refl e
    where
      go : (r : ℕ) → listing_refusal input ≡ r → text_by rule input r ≡ refused_text n → ListingStops input n
      go zero q f = absurd (table_unrefused rule (limit_in input) (table_of (body_in input)) n f)
      go (suc r) q f = let m = refused_number (suc r) n f in refusal_stops input n (omega arith) (q ∙ m)

  -- THEOREM: and wherever that cause stands
  pub stops_refused : (input : List ℕ) (n : ℕ) → ListingStops input n → text_of rule input ≡ refused_text n
  stops_refused input n s = text_refused rule input n (sym (stops_refusal s)) (stops_some s)

  -- THEOREM: of an input up to 65,536 bytes whose body is accepted the text is the table's
  pub listed_text : (input : List ℕ) → Listable input → text_of rule input ≡ table_text rule (limit_in input) (table_of (body_in input))
  unfolding text_of
  listed_text input t = ap (text_by rule input) (validated_number input (listable_long t) t.short ∙ ap number_of t.accepted)

  -- THEOREM: and only of such an input
  pub text_listed_only : (input : List ℕ) → text_of rule input ≡ table_text rule (limit_in input) (table_of (body_in input)) → Listable input
  unfolding text_of
  text_listed_only input e = go (listing_refusal input) refl e
    where
      go : (r : ℕ) → listing_refusal input ≡ r → text_by rule input r ≡ table_text rule (limit_in input) (table_of (body_in input)) → Listable input
      go zero q f = unrefused input q
      go (suc r) q f = absurd (table_unrefused rule (limit_in input) (table_of (body_in input)) (suc r) (sym f))

-- THEOREM: an input that no cause refuses is such an input
pub unstopped_taken : (input : List ℕ) → ((n : ℕ) → ListingStops input n → ⊥) → Listable input
unstopped_taken input none = go (listing_refusal input) refl
  where
    go : (r : ℕ) → listing_refusal input ≡ r → Listable input
    go zero q = unrefused input q
    go (suc r) q = absurd (none (suc r) (refusal_stops input (suc r) (omega arith) q))
