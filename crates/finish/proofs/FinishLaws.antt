-- Finish by its parts: the refusal before the keys are placed and the one after, and what the workspace of a taken attempt gives. Assumes nothing.
use Rattle.std.specs.Prelude.{None, Some, Result, Ok, Err}
use Rattle.std.specs.Prelude as prelude
use Prim.Native.Nat.{ℕ, zero, suc, ◌+◌, ◌*◌, ◌≤◌, ◌<◌}
use native.Mathlib.Nat.{zero-lt-suc}
use native.Mathlib.Omega.{arith}
use native.Mathlib.Decide.{ℕ_discrete}
use native.Mathlib.Numerals.{lt_of_le_of_ne}
use mathlib.Core.Path.{◌≡◌, refl, sym, ap, ap₂, ◌∙◌, subst}
use mathlib.Core.Bool.{Bool, false, cond}
use mathlib.Core.List.{List, [], ◌∷◌, ◌++◌}
use mathlib.Core.Option.{Option, none, some}
use lib.ListN.{length, get_or, take, drop, length-drop, replicate, get_or-append}
use lib.Seq.{get_or-take, get_or_at, length-take-le}
use lib.Dec.{eqb}
use borrow.Author.Tests.{ne_eqb}
use Rattle.numbers.specs.declared.Refusal.{Refusal}
use Rattle.numbers.specs.declared.Refusal.TheVariants.{Attempts, SelfCheck}
use Rattle.numbers.specs.Numbers.{number, answered}
use Rattle.numbers.proofs.NumberLaws.{number_nonzero, answered_refusal}
use Rattle.records.specs.declared.Walked.{Walked}
use Rattle.laws.specs.Refusals.{or_else, Numbered}
use Rattle.laws.specs.Refusals.Numbered.{numbered_none, numbered_more}
use Rattle.laws.proofs.RefusalLaws.{first_append, or_else_stop}
use Rattle.words.specs.Field.{splice}
use Rattle.mixing.specs.Mixing.{hash_of, seed_of}
use Rattle.mixing.proofs.SlotLaws.{few_buckets}
use Rattle.construct.specs.Construct.{buckets_of, Placing, construct_of}
use Rattle.construct.specs.Keys.{arena_key, hashes_of, attempt_hashes}
use Rattle.records.specs.Places.{entry_place}
use Rattle.records.specs.Rules.{unslotted}
use Rattle.records.specs.Walk.{Finds, walk_from}
use Rattle.records.proofs.PassedLaws.{walk_ends}
use Rattle.construct.specs.Inner.Layout.{Lent}
use Rattle.construct.specs.Answer.{constructed_of, pilots_from, slots_from, pilots_in, slots_in, placing, ConstructPost}
use Rattle.construct.proofs.KeysLaws.{hashes_long}
use Rattle.finish.specs.Body.{arena_start, body_bytes, placed_of, body_from, body_of}
use Rattle.finish.specs.Finish.{walked_causes, placing_causes, walked_refusal, mismatch, placing_refusal, lengths_refusal, keys_of, walked, finish_refusal, body_length, finish_of, out_after, space_after, FinishPost}
use Rattle.finish.specs.Inner.Needs.{Room, placed_as, AttemptTaken, BodyPost, SlotsKnown, Filled}
use Rattle.finish.proofs.LengthLaws.{Lengths, lengths}
use Rattle.finish.proofs.CheckLaws.{all_filled}

-- ---- the refusals in a row

numbered_lengths : (size end n out wide narrow : ℕ) → Numbered (walked_causes size end n out wide narrow)
numbered_lengths size end n out wide narrow =
    numbered_more (zero-lt-suc 7)
    (numbered_more (zero-lt-suc 4) (numbered_more (zero-lt-suc 4) (numbered_more (zero-lt-suc 8) (numbered_more (zero-lt-suc 8) (numbered_more (zero-lt-suc 5) numbered_none)))))

module _ (arena : List ℕ) (out wide narrow : ℕ) where
  pub refused_by : finish_refusal arena out wide narrow ≡ or_else (lengths_refusal arena out wide narrow) (placing_refusal arena (keys_of arena))
  unfolding finish_refusal walked_refusal placing_refusal
  refused_by =
      first_append (walked_causes (length arena) (walked arena).end (keys_of arena) out wide narrow) (placing_causes arena (keys_of arena))
      (numbered_lengths (length arena) (walked arena).end (keys_of arena) out wide narrow)

  -- a refusal before the keys are placed
  pub refused_early : (lengths_refusal arena out wide narrow ≡ 0 → ⊥) → finish_refusal arena out wide narrow ≡ lengths_refusal arena out wide narrow
  refused_early h = refused_by ∙ or_else_stop _ _ h

  -- and none
  pub refused_late : lengths_refusal arena out wide narrow ≡ 0 → finish_refusal arena out wide narrow ≡ placing_refusal arena (keys_of arena)
  refused_late h = refused_by ∙ ap (λ (x : ℕ). or_else x (placing_refusal arena (keys_of arena))) h

-- ---- the room for the keys

pub room_lent : (arena out wide narrow : List ℕ) (n : ℕ) → Room arena out wide n → 8 * n + 8 ≤ length narrow → Lent arena wide narrow n
room_lent arena out wide narrow n R words =
    let most = R.most in
    record { any = R.any; most = omega arith; entries = R.entries; long = R.long; room = omega (arith, few_buckets n) }

pub room_kept : (arena out wide wide' : List ℕ) (n : ℕ) → Room arena out wide n → length wide' ≡ length wide → Room arena out wide' n
room_kept arena out wide wide' n R e = record { any = R.any; most = R.most; entries = R.entries; long = e ∙ R.long; room = R.room }

-- ---- what construct left

module _ (arena wide narrow : List ℕ) (n : ℕ) where
  pub exhausted : (r : prelude.Option ℕ) → r ≡ None → ConstructPost (attempt_hashes arena n) n wide narrow r → placed_of arena n ≡ none
  unfolding placed_of
  exhausted r er B = go (construct_of (attempt_hashes arena n)) (sym er ∙ B.answer)
    where
      go : (o : Option (ℕ × Placing)) → None ≡ constructed_of o → o ≡ none
      go none e = refl
      go (some (i, pl)) e = absurd (let z : ◌≡◌ {A = ℕ} 0 1 = cc in omega arith)

  pub chosen : (i b : ℕ) (pilots slots : List ℕ) (r : prelude.Option ℕ) → r ≡ Some i → ConstructPost (attempt_hashes arena n) n wide narrow r → slots_from b + n ≤ length narrow
      → b ≡ buckets_of n → pilots ≡ pilots_in b narrow → slots ≡ slots_in n b narrow → AttemptTaken arena wide pilots slots n i
  unfolding placed_of placing
  chosen i b pilots slots r er B room eb ep es = go (construct_of (attempt_hashes arena n)) refl (sym er ∙ B.answer)
    where
      go : (o : Option (ℕ × Placing)) → construct_of (attempt_hashes arena n) ≡ o → Some i ≡ constructed_of o → AttemptTaken arena wide pilots slots n i
      go none e q = absurd (let z : ◌≡◌ {A = ℕ} 0 1 = cc in omega arith)
      go (some (j, pl)) e q =
          let ij : i ≡ j = cc in
          record {
            pilots_long = ap length ep ∙ length-take-le b (drop (pilots_from b) narrow) (simp length-drop (omega arith)) ∙ eb;
            slots_long = ap length es ∙ length-take-le n (drop (slots_from b) narrow) (simp length-drop (omega arith));
            taken = e ∙ ap₂ (λ (x : ℕ) (y : Placing). some (x, y)) (sym ij) (sym (B.placed j pl e)) ∙ rw (ep, es, eb);
            hashes = B.kept j pl e ∙ ap (attempt_hashes arena n) (sym ij);
          }

-- hash m of the first n
pub hash_at : (seed : ℕ) (arena : List ℕ) (n m : ℕ) → m < n → get_or (hashes_of seed arena n) m 0 ≡ hash_of seed (arena_key arena m)
unfolding hashes_of
hash_at seed arena zero m l = absurd (omega arith)
hash_at seed arena (suc n) m l = go (ℕ_discrete m n) (λ lt. hash_at seed arena n m lt)
  where
    go : Dec (m ≡ n) → (m < n → get_or (hashes_of seed arena n) m 0 ≡ hash_of seed (arena_key arena m)) → get_or (hashes_of seed arena n ++ (hash_of seed (arena_key arena n) ∷ [])) m 0 ≡ hash_of seed (arena_key arena m)
    go (yes e) rest = get_or_at (hashes_of seed arena n) (hash_of seed (arena_key arena n)) [] 0 m (hashes_long seed arena n ∙ sym e) ∙ ap (λ (x : ℕ). hash_of seed (arena_key arena x)) (sym e)
    go (no e) rest =
        let lt : m < n = lt_of_le_of_ne (omega arith) e in
        get_or-append (hashes_of seed arena n) (hash_of seed (arena_key arena n) ∷ []) 0 m (omega (arith, hashes_long seed arena n)) ∙ rest lt

module _ (arena wide pilots slots : List ℕ) (n i : ℕ) (C : AttemptTaken arena wide pilots slots n i) where
  -- 11 by the self-check of what was left
  pub chosen_refusal : (t : Bool) → mismatch (take n wide) pilots slots ≡ t → placing_refusal arena n ≡ cond t 11 0
  unfolding placing_refusal
  chosen_refusal t e = rw (C.taken, ← C.hashes, e)

  pub chosen_out : (out out' : List ℕ) (seed : ℕ) → seed ≡ seed_of i → out' ≡ splice out 0 (body_bytes arena n seed (placed_as pilots slots)) → out' ≡ splice out 0 (body_of arena n)
  unfolding body_of
  chosen_out out out' seed es q = q ∙ ap (λ (x : ℕ). splice out 0 (body_bytes arena n x (placed_as pilots slots))) es ∙ sym (ap (λ (o : Option (ℕ × Placing)). splice out 0 (body_from arena n o)) C.taken)

  -- the hashes, and that every slot holds a key where the self-check passes
  pub chosen_written : (seed : ℕ) → seed ≡ seed_of i → mismatch (take n wide) pilots slots ≡ false → SlotsKnown arena wide pilots slots n seed
  unfolding attempt_hashes
  chosen_written seed es e = record {
    pilots_long = C.pilots_long;
    slots_long = C.slots_long;
    hashes = λ m lm. sym (get_or-take n wide m 0 lm) ∙ ap (λ (z : List ℕ). get_or z m 0) C.hashes ∙ hash_at (seed_of i) arena n m lm ∙ ap (λ (x : ℕ). hash_of x (arena_key arena m)) (sym es);
    slots_filled = subst (λ (x : ℕ). Filled x slots) C.slots_long (all_filled (take n wide) pilots slots e);
  }

-- ---- what was built

pub built_ten : (arena out : List ℕ) (n : ℕ) → placed_of arena n ≡ none → BodyPost arena out n (Err Attempts) out
unfolding placing_refusal
built_ten arena out n e = record { answer = rw e; written = rw e }

pub built_eleven : (arena out : List ℕ) (n : ℕ) → placing_refusal arena n ≡ 11 → BodyPost arena out n (Err SelfCheck) out
built_eleven arena out n e = record { answer = rw e; written = rw e }

pub built_body : (arena out out' : List ℕ) (n start : ℕ) → placing_refusal arena n ≡ 0 → start ≡ arena_start n → out' ≡ splice out 0 (body_of arena n) → BodyPost arena out n (Ok (start + length arena)) out'
built_body arena out out' n start e es q = record { answer = rw (e, es); written = rw e q }

-- ---- what finish leaves

module _ (arena out wide narrow : List ℕ) (k : Walked) (F : Finds k (walk_from unslotted arena None 0 0 (length arena))) where
  keys_walked : k.keys ≡ keys_of arena
  unfolding walked
  keys_walked = F.keys

  by_walk : walked_refusal (length arena) k.end k.keys (length out) (length wide) (length narrow) ≡ lengths_refusal arena (length out) (length wide) (length narrow)
  unfolding walked
  by_walk = ap₂ (λ (e n : ℕ). walked_refusal (length arena) e n (length out) (length wide) (length narrow)) F.end F.keys

  -- refused before the keys are placed: nothing is written
  pub post_early : (r : Refusal) → number r ≡ walked_refusal (length arena) k.end k.keys (length out) (length wide) (length narrow) → FinishPost arena out wide narrow (Err r) out wide narrow
  unfolding finish_of out_after
  post_early r e =
      let e' : lengths_refusal arena (length out) (length wide) (length narrow) ≡ number r = sym (e ∙ by_walk) in
      let n : eqb (number r) 0 ≡ false = ne_eqb (number r) 0 (number_nonzero r) in
      let q : finish_refusal arena (length out) (length wide) (length narrow) ≡ number r = refused_early arena (length out) (length wide) (length narrow) (λ z. number_nonzero r (sym e' ∙ z)) ∙ e' in
      record {
        answer = sym (answered_refusal r _ _ (sym q));
        out_after_is = sym (ap (λ (x : ℕ). cond (eqb x 0) (splice out 0 (body_of arena (keys_of arena))) out) q ∙ ap (λ (t : Bool). cond t (splice out 0 (body_of arena (keys_of arena))) out) n);
        wide_after = sym (ap (λ (x : ℕ). space_after x wide) e' ∙ ap (λ (t : Bool). cond t (replicate (length wide) 0) wide) n);
        narrow_after = sym (ap (λ (x : ℕ). space_after x narrow) e' ∙ ap (λ (t : Bool). cond t (replicate (length narrow) 0) narrow) n);
      }

  module _ (passed : walked_refusal (length arena) k.end k.keys (length out) (length wide) (length narrow) ≡ 0) where
    pub length_facts : Lengths (length arena) k.end k.keys (length out) (length wide) (length narrow)
    length_facts = lengths (length arena) k.end k.keys (length out) (length wide) (length narrow) passed

    pub space_long : length (take (k.keys + k.keys) wide) ≡ k.keys + k.keys
    space_long = length-take-le (k.keys + k.keys) wide (omega (arith, length_facts.wide_long))

    walk_inside : entry_place arena 0 k.keys ≤ length arena
    walk_inside =
        let e : k.end ≡ entry_place arena 0 k.keys = F.end ∙ walk_ends unslotted arena None 0 0 (length arena) ∙ ap (entry_place arena 0) (sym F.keys) in
        omega (arith, e, length_facts.whole)

    pub post_room : Room arena out (take (k.keys + k.keys) wide) k.keys × (8 * k.keys + 8 ≤ length narrow)
    post_room = (
      record {
        any = length_facts.some;
        most = length_facts.few;
        entries = walk_inside;
        long = space_long;
        room = length_facts.room;
      },
      length_facts.narrow_long,
    )

    -- the keys placed or not: the output as that leaves it, the workspace zero
    pub post_late : (r : Result ℕ Refusal) (out' wide' narrow' : List ℕ) → BodyPost arena out k.keys r out' → wide' ≡ replicate (length wide) 0 → narrow' ≡ replicate (length narrow) 0 → FinishPost arena out wide narrow r out' wide' narrow'
    unfolding finish_of out_after
    post_late r out' wide' narrow' B ew eu =
        let z : lengths_refusal arena (length out) (length wide) (length narrow) ≡ 0 = sym by_walk ∙ passed in
        let q : finish_refusal arena (length out) (length wide) (length narrow) ≡ placing_refusal arena k.keys = refused_late arena (length out) (length wide) (length narrow) z ∙ ap (placing_refusal arena) (sym keys_walked) in
        record {
          answer = B.answer ∙ sym (ap (λ (x : ℕ). answered x (body_length arena (keys_of arena))) q ∙ ap (λ (x : ℕ). answered (placing_refusal arena k.keys) (body_length arena x)) (sym keys_walked));
          out_after_is = B.written ∙ sym (ap (λ (x : ℕ). cond (eqb x 0) (splice out 0 (body_of arena (keys_of arena))) out) q ∙ ap (λ (x : ℕ). cond (eqb (placing_refusal arena k.keys) 0) (splice out 0 (body_of arena x)) out) (sym keys_walked));
          wide_after = ew ∙ sym (ap (λ (x : ℕ). space_after x wide) z);
          narrow_after = eu ∙ sym (ap (λ (x : ℕ). space_after x narrow) z);
        }
