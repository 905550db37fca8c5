-- A byte as a kind: as the code reads it, as the rules test it, and as it is written. Assumes nothing.
use Rattle.std.specs.Prelude.{None, Some}
use Prim.Native.Nat.{ℕ}
use native.Mathlib.Omega.{arith}
use mathlib.Core.Path.{◌≡◌, refl, sym}
use mathlib.Core.Bool.{Bool, true, false, not, cond, ◌||◌}
use lib.Dec.{eqb}
use borrow.Author.Tests.{eqb-true}
use Rattle.records.specs.declared.Kind.{Kind}
use Rattle.records.specs.declared.Kind.TheVariants.{Put, Tombstone}
use Rattle.records.specs.Model.{kind_byte, kind_read}
use Rattle.records.specs.Places.{kind_of}
use Rattle.records.specs.Rules.{bad_kind}

pub kind_unknown : (b : ℕ) → kind_read b ≡ None → bad_kind b ≡ true
kind_unknown b e = go (eqb b 1) (eqb b 2) e
  where
    go : (s t : Bool) → cond s (Some Put) (cond t (Some Tombstone) None) ≡ None → not (s || t) ≡ true
    go true t q = cc
    go false true q = cc
    go false false q = refl

pub kind_known : (b : ℕ) (k : Kind) → kind_read b ≡ Some k → (bad_kind b ≡ false) × (kind_of b ≡ k)
kind_known b k e = go (eqb b 1) (eqb b 2) e
  where
    go : (s t : Bool) → cond s (Some Put) (cond t (Some Tombstone) None) ≡ Some k → (not (s || t) ≡ false) × (cond s Put Tombstone ≡ k)
    go true t q = (refl, cc)
    go false true q = (refl, cc)
    go false false q = (cc, cc)

-- a byte that is a kind is written again
pub kind_byte_lem : (b : ℕ) → bad_kind b ≡ false → kind_byte (kind_of b) ≡ b
kind_byte_lem b e = go (eqb b 1) (eqb b 2) refl refl e
  where
    go : (s t : Bool) → eqb b 1 ≡ s → eqb b 2 ≡ t → not (s || t) ≡ false → kind_byte (cond s Put Tombstone) ≡ b
    go true t p q z = sym (eqb-true b 1 p)
    go false true p q z = sym (eqb-true b 2 q)
    go false false p q z = let y : ◌≡◌ {A = ℕ} 0 1 = cc in omega arith

-- a kind that is written is read again, and is one
pub kind_back : (k : Kind) → kind_of (kind_byte k) ≡ k
kind_back Put = refl
kind_back Tombstone = refl

pub kind_good : (k : Kind) → bad_kind (kind_byte k) ≡ false
kind_good Put = refl
kind_good Tombstone = refl

-- the byte of a tombstone
pub tombstone_two : (b : ℕ) → bad_kind b ≡ false → kind_of b ≡ Tombstone → b ≡ 2
tombstone_two b e k = go (eqb b 1) (eqb b 2) refl e k
  where
    go : (s t : Bool) → eqb b 2 ≡ t → not (s || t) ≡ false → cond s Put Tombstone ≡ Tombstone → b ≡ 2
    go true t q f h = absurd (let z : ◌≡◌ {A = ℕ} 0 1 = cc in omega arith)
    go false true q f h = eqb-true b 2 q
    go false false q f h = absurd (let z : ◌≡◌ {A = ℕ} 0 1 = cc in omega arith)
