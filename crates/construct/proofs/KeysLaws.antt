-- The entries of an arena one after another: they begin where the last ends, and those before an entry inside the arena are inside too; hashes stored one after another. Assumes nothing.
use Prim.Native.Nat.{ℕ, zero, suc, ◌+◌, ◌≤◌, ◌<◌}
use mathlib.Core.Path.{◌≡◌, refl, sym, ap, ap₂, ◌∙◌, subst}
use mathlib.Core.List.{List, [], ◌∷◌, ◌++◌}
use native.Mathlib.Omega.{arith}
use native.Mathlib.Decide.{ℕ_discrete}
use native.Mathlib.Numerals.{add-one, lt_of_le_of_ne}
use lib.ListN.{length, take, set, length-append}
use lib.Seq.{take-suc-set}
use Rattle.mixing.specs.Mixing.{hash_of}
use Rattle.records.specs.Places.{key_at, next_entry, entry_place}
use Rattle.records.proofs.PassedLaws.{place_rises, place_next}
use Rattle.construct.specs.Keys.{arena_key, hashes_of}
use Rattle.construct.specs.Inner.Layout.{Entries}

-- the entries begin at the start, and each where the last ends
pub entry_first : (arena : List ℕ) → entry_place arena 0 0 ≡ 0
unfolding entry_place
entry_first arena = refl

pub entry_next : (arena : List ℕ) (i : ℕ) → entry_place arena 0 (i + 1) ≡ next_entry arena (entry_place arena 0 i)
entry_next arena i = ap (entry_place arena 0) (add-one i) ∙ place_next arena 0 i

-- an entry ends where the n-th begins, or before
pub entry_rises : (arena : List ℕ) (i n : ℕ) → i < n → next_entry arena (entry_place arena 0 i) ≤ entry_place arena 0 n
entry_rises arena i n l = go (ℕ_discrete (suc i) n)
  where
    go : Dec (suc i ≡ n) → next_entry arena (entry_place arena 0 i) ≤ entry_place arena 0 n
    go (yes e) = omega (arith, place_next arena 0 i, ap (entry_place arena 0) e)
    go (no e) = omega (arith, place_next arena 0 i, place_rises arena 0 (suc i) n (lt_of_le_of_ne l e))

-- entry i lies inside the arena, where i is less than the n that do
pub entry_inside : (arena : List ℕ) (n i p : ℕ) → Entries arena n → p ≡ entry_place arena 0 i → i < n → next_entry arena p ≤ length arena
entry_inside arena n i p E e l = subst (λ (x : ℕ). next_entry arena x ≤ length arena) (sym e) (omega (arith, entry_rises arena i n l, E))

-- no hashes yet, and one more stored
pub hashes_none : (seed : ℕ) (arena : List ℕ) → hashes_of seed arena 0 ≡ []
unfolding hashes_of
hashes_none seed arena = refl

pub hashes_more : (seed : ℕ) (arena hs : List ℕ) (p i v : ℕ) → i < length hs → p ≡ entry_place arena 0 i → v ≡ hash_of seed (key_at arena p) → take i hs ≡ hashes_of seed arena i → take (i + 1) (set hs i v) ≡ hashes_of seed arena (i + 1)
unfolding hashes_of
hashes_more seed arena hs p i v l ep ev e =
    ap (λ (x : ℕ). take x (set hs i v)) (add-one i)
    ∙ take-suc-set hs i v l
    ∙ ap₂ (λ (xs : List ℕ) (x : ℕ). xs ++ (x ∷ [])) e (ev ∙ ap (λ (x : ℕ). hash_of seed (key_at arena x)) ep)
    ∙ ap (hashes_of seed arena) (sym (add-one i))

pub hashes_long : (seed : ℕ) (arena : List ℕ) (n : ℕ) → length (hashes_of seed arena n) ≡ n
unfolding hashes_of
hashes_long seed arena zero = refl
hashes_long seed arena (suc n) = length-append (hashes_of seed arena n) (hash_of seed (arena_key arena n) ∷ []) ∙ omega (arith, hashes_long seed arena n)
