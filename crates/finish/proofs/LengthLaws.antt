-- What it says that nothing is refused before the keys are placed, both ways. Assumes nothing.
use Prim.Native.Nat.{ℕ, ◌+◌, ◌*◌, ◌≤◌, ◌<◌}
use native.Mathlib.Omega.{arith}
use mathlib.Core.Path.{◌≡◌}
use mathlib.Core.Bool.{not}
use lib.Dec.{eqb, ltb}
use borrow.Author.Tests.{ltb-false, eqb-true, eqb-false, not-false, le-ltb, eq-eqb, ne_eqb}
use Rattle.numbers.specs.Limits.{most_keys}
use Rattle.layout.proofs.HeaderLaws.{passes}
use Rattle.finish.specs.Body.{arena_start}
use Rattle.finish.specs.Finish.{walked_refusal}

module _ (size end n out wide narrow : ℕ) where
  -- what it says that none was given
  pub record Lengths : Type 0 where
    pub whole : end ≡ size
    pub some : 0 < n
    pub few : n ≤ most_keys
    pub wide_long : 2 * n ≤ wide
    pub narrow_long : 8 * n + 8 ≤ narrow
    pub room : arena_start n + size ≤ out

  pub lengths : walked_refusal size end n out wide narrow ≡ 0 → Lengths
  unfolding walked_refusal
  lengths h =
      let e1 = passes (not (eqb end size)) 7 _ h in
      let e2 = passes (eqb n 0) 4 _ e1.1 in
      let e3 = passes (ltb most_keys n) 4 _ e2.1 in
      let e4 = passes (ltb wide (2 * n)) 8 _ e3.1 in
      let e5 = passes (ltb narrow (8 * n + 8)) 8 _ e4.1 in
      let e6 = passes (ltb out (arena_start n + size)) 5 _ e5.1 in
      let z = eqb-false n 0 e2.0 in
      record {
        whole = eqb-true _ _ (not-false _ e1.0);
        some = omega arith;
        few = ltb-false _ _ e3.0;
        wide_long = ltb-false _ _ e4.0;
        narrow_long = ltb-false _ _ e5.0;
        room = ltb-false _ _ e6.0;
      }

  -- and where it is so, nothing is refused
  pub length_fits : end ≡ size → (n ≡ 0 → ⊥) → n ≤ most_keys → 2 * n ≤ wide → 8 * n + 8 ≤ narrow → arena_start n + size ≤ out
      → 0 ≡ walked_refusal size end n out wide narrow
  unfolding walked_refusal
  length_fits e some few w u h =
      rw (
        eq-eqb end size e,
        ne_eqb n 0 some,
        le-ltb most_keys n few,
        le-ltb wide (2 * n) w,
        le-ltb narrow (8 * n + 8) u,
        le-ltb out (arena_start n + size) h,
      )
