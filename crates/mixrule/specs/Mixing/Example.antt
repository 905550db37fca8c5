-- Document 01's example, keys A, B and C: the values that placing them takes, computed from the definitions; and two keys that no seed places.
-- Crates above know these beside names, contracts and bounds. Assumes nothing.
use Rattle.std.specs.Prelude.{ℕ, zero, suc, ◌<◌, ◌≡◌, refl, List, [], ◌∷◌, get_or}
use Rattle.std.proofs.Common.{arith, sym, ap, ◌∙◌}
use Rattle.words.specs.Field.{le, spelled}
use Rattle.words.specs.Wide.{rotated}
use Rattle.mixrule.specs.Mixing.{mix_of, times, folded, taken, filled, absorbed, hash_of, fingerprint_of, position_of, seed_of}
use Rattle.mixrule.specs.Mixing.Vectors.{seed_first}

-- the seed of attempt 0, and the hashes under it
pub record Hashes : Type 0 where
  pub seed : seed_of 0 ≡ 16294208416658607535
  pub A : hash_of (seed_of 0) (65 ∷ []) ≡ 4075506650429777390
  pub B : hash_of (seed_of 0) (66 ∷ []) ≡ 17621104146898154821
  pub C : hash_of (seed_of 0) (67 ∷ []) ≡ 3499391619852859206

pub hashes : Hashes
unfolding hash_of absorbed filled seed_of mix_of times folded le spelled
hashes = record { seed = seed_first; A = refl; B = refl; C = refl }

-- the positions of these hashes, of three, under the pilots 0, 1 and 2, as far as the search for the least pilot asks for them
pub record Positions : Type 0 where
  pub A0 : position_of 4075506650429777390 0 3 ≡ 1
  pub B0 : position_of 17621104146898154821 0 3 ≡ 2
  pub C0 : position_of 3499391619852859206 0 3 ≡ 1
  pub A1 : position_of 4075506650429777390 1 3 ≡ 0
  pub B1 : position_of 17621104146898154821 1 3 ≡ 0
  pub A2 : position_of 4075506650429777390 2 3 ≡ 0
  pub B2 : position_of 17621104146898154821 2 3 ≡ 2
  pub C2 : position_of 3499391619852859206 2 3 ≡ 1

pub positions : Positions
unfolding position_of mix_of times folded
positions = record { A0 = refl; B0 = refl; C0 = refl; A1 = refl; B1 = refl; A2 = refl; B2 = refl; C2 = refl }

-- their fingerprints
pub record Fingerprints : Type 0 where
  pub A : fingerprint_of 4075506650429777390 ≡ 15129
  pub B : fingerprint_of 17621104146898154821 ≡ 63089
  pub C : fingerprint_of 3499391619852859206 ≡ 27330

pub fingerprints : Fingerprints
unfolding fingerprint_of mix_of times folded
fingerprints = record { A = refl; B = refl; C = refl }

-- a key's hashes under the eight seeds
hashes_under : List ℕ → List ℕ
hashes_under key =
    hash_of (seed_of 0) key ∷ hash_of (seed_of 1) key ∷ hash_of (seed_of 2) key ∷ hash_of (seed_of 3) key
    ∷ hash_of (seed_of 4) key ∷ hash_of (seed_of 5) key ∷ hash_of (seed_of 6) key ∷ hash_of (seed_of 7) key ∷ []

under_each : (a b : List ℕ) (i : ℕ) → i < 8 → get_or (hashes_under a) i 0 ≡ get_or (hashes_under b) i 0 → hash_of (seed_of i) a ≡ hash_of (seed_of i) b
unfolding hashes_under
under_each a b zero l e = e
under_each a b (suc zero) l e = e
under_each a b (suc (suc zero)) l e = e
under_each a b (suc (suc (suc zero))) l e = e
under_each a b (suc (suc (suc (suc zero)))) l e = e
under_each a b (suc (suc (suc (suc (suc zero))))) l e = e
under_each a b (suc (suc (suc (suc (suc (suc zero)))))) l e = e
under_each a b (suc (suc (suc (suc (suc (suc (suc zero))))))) l e = e
under_each a b (suc (suc (suc (suc (suc (suc (suc (suc i)))))))) l e = absurd (omega arith)

-- those of two keys of 16 bytes
pair_hashes : List ℕ
pair_hashes =
    14701553966210742605 ∷ 14438703302553790888 ∷ 4206705130576658099 ∷ 1377093628260861889
    ∷ 10163973296265705540 ∷ 2127356742887126297 ∷ 5397956072829938904 ∷ 11228684061641024923 ∷ []

one_hashes : hashes_under (65 ∷ 65 ∷ 65 ∷ 65 ∷ 65 ∷ 65 ∷ 65 ∷ 65 ∷ 66 ∷ 66 ∷ 66 ∷ 66 ∷ 66 ∷ 66 ∷ 66 ∷ 66 ∷ []) ≡ pair_hashes
unfolding hashes_under pair_hashes hash_of absorbed taken filled seed_of mix_of times folded le spelled rotated
one_hashes = refl

other_hashes : hashes_under (65 ∷ 65 ∷ 65 ∷ 65 ∷ 81 ∷ 65 ∷ 65 ∷ 65 ∷ 66 ∷ 66 ∷ 66 ∷ 66 ∷ 66 ∷ 66 ∷ 66 ∷ 194 ∷ []) ≡ pair_hashes
unfolding hashes_under pair_hashes hash_of absorbed taken filled seed_of mix_of times folded le spelled rotated
other_hashes = refl

-- under each they are equal
pub equal_pair : (i : ℕ) → i < 8
    → hash_of (seed_of i) (65 ∷ 65 ∷ 65 ∷ 65 ∷ 65 ∷ 65 ∷ 65 ∷ 65 ∷ 66 ∷ 66 ∷ 66 ∷ 66 ∷ 66 ∷ 66 ∷ 66 ∷ 66 ∷ [])
    ≡ hash_of (seed_of i) (65 ∷ 65 ∷ 65 ∷ 65 ∷ 81 ∷ 65 ∷ 65 ∷ 65 ∷ 66 ∷ 66 ∷ 66 ∷ 66 ∷ 66 ∷ 66 ∷ 66 ∷ 194 ∷ [])
equal_pair i l = under_each _ _ i l (ap (λ (hs : List ℕ). get_or hs i 0) (one_hashes ∙ sym other_hashes))
