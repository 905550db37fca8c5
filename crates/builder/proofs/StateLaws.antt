-- What a state that fits its buffer says, and back. Assumes nothing.
use Prim.Native.Nat.{ℕ, ◌+◌, ◌≤◌}
use mathlib.Core.Path.{◌≡◌, refl, sym, ap, ◌∙◌}
use mathlib.Core.Bool.{Bool, true, false, cond, true≢false, ◌&&◌, and-eq-true_iff}
use mathlib.Core.List.{List}
use native.Mathlib.Omega.{arith}
use borrow.Author.Tests.{leb-true, eqb-true, eqb-false, le-leb, eq-eqb, ne_eqb}
use lib.Dec.{leb, eqb}
use lib.ListN.{length}
use Rattle.std.specs.Bool.{Decides}
use Rattle.std.proofs.lemmas.Bool.Decides.{same_from_decides}
use Rattle.numbers.specs.Limits.{most_key_bytes, most_keys}
use Rattle.numbers.specs.Numbers.{number, refusal_of}
use Rattle.numbers.specs.declared.Refusal.{Refusal}
use Rattle.numbers.specs.declared.Refusal.TheVariants.{State}
use Rattle.numbers.proofs.NumberLaws.{refusal_number, number_nonzero}
use Rattle.records.specs.Places.{key_length, version_count, next_entry}
use Rattle.builder.specs.declared.PointBuilder.{PointBuilder}
use Rattle.builder.specs.State.{fits, fits_at}

-- a state with a key, beside its buffer
pub record Fitting (s : PointBuilder) (buffer : List ℕ) : Type 0 where
  pub few : s.keys ≤ most_keys
  pub inside : s.used ≤ length buffer
  pub headed : s.head + 8 ≤ s.used
  pub short : key_length buffer s.head ≤ most_key_bytes
  pub versioned : 1 ≤ version_count buffer s.head
  pub whole : next_entry buffer s.head ≡ s.used

module _ (s : PointBuilder) (buffer : List ℕ) where
  pub fits_zero : s.keys ≡ 0 → fits s buffer ≡ eqb s.used 0 && eqb s.head 0
  unfolding fits
  fits_zero z = rw (eq-eqb s.keys 0 z)

  module _ (ne : s.keys ≡ 0 → ⊥) where
    fits_some : fits s buffer ≡ fits_at s buffer
    unfolding fits
    fits_some = rw (ne_eqb s.keys 0 ne)

    pub fits_known : fits s buffer ≡ true → Fitting s buffer
    unfolding fits_at
    fits_known h =
        let a = (and-eq-true_iff (leb s.keys most_keys) _).0 (sym fits_some ∙ h) in
        let b = (and-eq-true_iff (leb s.used (length buffer)) _).0 a.1 in
        let c = (and-eq-true_iff (leb (s.head + 8) s.used) _).0 b.1 in
        let d = (and-eq-true_iff (leb (key_length buffer s.head) most_key_bytes) _).0 c.1 in
        let e = (and-eq-true_iff (leb 1 (version_count buffer s.head)) _).0 d.1 in
        record {
          few = leb-true s.keys most_keys a.0;
          inside = leb-true s.used (length buffer) b.0;
          headed = leb-true (s.head + 8) s.used c.0;
          short = leb-true (key_length buffer s.head) most_key_bytes d.0;
          versioned = leb-true 1 (version_count buffer s.head) e.0;
          whole = eqb-true (next_entry buffer s.head) s.used e.1;
        }

    pub fits_given : Fitting s buffer → fits s buffer ≡ true
    unfolding fits_at
    fits_given f =
        fits_some
        ∙ rw (le-leb s.keys most_keys f.few, le-leb s.used (length buffer) f.inside, le-leb (s.head + 8) s.used f.headed, le-leb (key_length buffer s.head) most_key_bytes f.short, le-leb 1 (version_count buffer s.head) f.versioned, eq-eqb (next_entry buffer s.head) s.used f.whole)

    pub fits_decides : Decides (fits s buffer) (Fitting s buffer)
    fits_decides = (fits_known, fits_given)

    pub fits_not : (Fitting s buffer → ⊥) → false ≡ fits s buffer
    fits_not bad = same_from_decides false _ ((λ e. absurd (true≢false (sym e))), (λ f. absurd (bad f))) fits_decides

-- a state that fits lies in its buffer
pub fits_inside : (s : PointBuilder) (buffer : List ℕ) → fits s buffer ≡ true → s.used ≤ length buffer
fits_inside s buffer h = go (eqb s.keys 0) refl
  where
    go : (t : Bool) → eqb s.keys 0 ≡ t → s.used ≤ length buffer
    go true e =
        let z = (and-eq-true_iff (eqb s.used 0) (eqb s.head 0)).0 (sym (fits_zero s buffer (eqb-true s.keys 0 e)) ∙ h) in
        let u = eqb-true s.used 0 z.0 in
        omega arith
    go false e = (fits_known s buffer (eqb-false s.keys 0 e) h).inside

-- a test of the state that passed, and one that refused
pub fit_passed : (fitting : Bool) → ◌≡◌ {A = ℕ} 0 (cond fitting 0 1) → fitting ≡ true
fit_passed true e = refl
fit_passed false e = cc

pub fit_refused : (r : Refusal) (fitting : Bool) → number r ≡ cond fitting 0 1 → (fitting ≡ false) × (r ≡ State)
fit_refused r true e = absurd (number_nonzero r e)
fit_refused r false e = (refl, sym (refusal_number r) ∙ ap refusal_of e)
