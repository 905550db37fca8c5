-- Finish: its refusals in document 01's order, its answer, and what it leaves in the output and the workspace.
use Rattle.std.specs.Prelude.{ℕ, ◌+◌, ◌-◌, ◌*◌, ◌≡◌, Bool, true, false, not, cond, ◌||◌, List, [], ◌∷◌, ◌++◌, eqb, ltb, length, get_or, replicate, None, Result, Ok, Err}
use Rattle.std.proofs.Math.Option.{Option, none, some}
use Rattle.laws.specs.Refusals.{Cause, cause, first_of}
use Rattle.laws.specs.Steps.{any_below}
use Rattle.numbers.specs.declared.Refusal.{Refusal}
use Rattle.numbers.specs.Limits.{most_keys}
use Rattle.numbers.specs.Numbers.{answered}
use Rattle.words.specs.Field.{splice}
use Rattle.records.specs.Walk.{Walk}
use Rattle.records.specs.Rules.{unslotted}
use Rattle.records.specs.Walk.{walk_from}
use Rattle.construct.specs.Construct.{Placing, index_of}
use Rattle.construct.specs.Keys.{attempt_hashes}
use Rattle.finish.specs.Body.{arena_start, placed_of, body_of}

-- the walk of records without slot and data test
unfoldable pub walked : List ℕ → Walk
walked arena = walk_from unslotted arena None 0 0 (length arena)

-- the keys of an arena, counted by walking
abbrev pub keys_of : List ℕ → ℕ
keys_of arena = (walked arena).keys

-- 8 the arena breaks a key or version rule; 5 no key, or more than 65,536; 9 workspace under 2n u64 or 8n + 8 u32; 6 output shorter than the body
abbrev pub walked_causes : (size end n out wide narrow : ℕ) → List Cause
walked_causes size end n out wide narrow =
    cause (not (eqb end size)) 8
    ∷ cause (eqb n 0) 5
    ∷ cause (ltb most_keys n) 5
    ∷ cause (ltb wide (2 * n)) 9
    ∷ cause (ltb narrow (8 * n + 8)) 9
    ∷ cause (ltb out (arena_start n + size)) 6
    ∷ []

unfoldable pub walked_refusal : (size end n out wide narrow : ℕ) → ℕ
walked_refusal size end n out wide narrow = first_of (walked_causes size end n out wide narrow)

-- slot s, of n, that holds `held`, is unfilled, holds no key, or one whose index is another slot
unfoldable pub unmatched : (hs pilots : List ℕ) → (n s held : ℕ) → Bool
unmatched hs pilots n s held = eqb held 0 || (ltb n held || not (eqb (index_of (get_or hs (held - 1) 0) pilots n) s))

unfoldable pub unmatched_at : (hs pilots slots : List ℕ) → ℕ → Bool
unmatched_at hs pilots slots s = unmatched hs pilots (length slots) s (get_or slots s 0)

-- slots unfilled or mismatched
unfoldable pub mismatch : (hs pilots slots : List ℕ) → Bool
mismatch hs pilots slots = any_below (unmatched_at hs pilots slots) (length slots)

-- no attempt is taken
abbrev pub untaken : Option (ℕ × Placing) → Bool
untaken none = true
untaken (some x) = false

-- the self-check of the attempt that is taken
abbrev pub mismatched : (ℕ → List ℕ) → Option (ℕ × Placing) → Bool
mismatched hashes none = false
mismatched hashes (some (i, pl)) = mismatch (hashes i) pl.pilots pl.slots

-- 10 all eight attempts failed, 11 self-check
abbrev pub placing_causes : List ℕ → ℕ → List Cause
placing_causes arena n =
    cause (untaken (placed_of arena n)) 10 ∷ cause (mismatched (attempt_hashes arena n) (placed_of arena n)) 11 ∷ []

unfoldable pub placing_refusal : List ℕ → ℕ → ℕ
placing_refusal arena n = first_of (placing_causes arena n)

-- what stops finish on an arena, with output and workspace of these lengths: 8, 5, 9, 6 before the keys are placed
abbrev pub lengths_refusal : List ℕ → (out wide narrow : ℕ) → ℕ
lengths_refusal arena out wide narrow = walked_refusal (length arena) (walked arena).end (keys_of arena) out wide narrow

-- and 10, 11 after that: every cause, in the order 8, 5, 9, 6, 10, 11
abbrev pub finish_causes : List ℕ → (out wide narrow : ℕ) → List Cause
finish_causes arena out wide narrow =
    walked_causes (length arena) (walked arena).end (keys_of arena) out wide narrow ++ placing_causes arena (keys_of arena)

unfoldable pub finish_refusal : List ℕ → (out wide narrow : ℕ) → ℕ
finish_refusal arena out wide narrow = first_of (finish_causes arena out wide narrow)

-- the length of the body of n keys
abbrev pub body_length : List ℕ → ℕ → ℕ
body_length arena n = arena_start n + length arena

-- what finish answers: the body's length, or the refusal of the number
unfoldable pub finish_of : List ℕ → (out wide narrow : ℕ) → Result ℕ Refusal
finish_of arena out wide narrow = answered (finish_refusal arena out wide narrow) (body_length arena (keys_of arena))

-- the output: the body in front, and the rest as it was; all as it was at a refusal
unfoldable pub out_after : List ℕ → (out : List ℕ) → (wide narrow : ℕ) → List ℕ
out_after arena out wide narrow =
    cond (eqb (finish_refusal arena (length out) wide narrow) 0) (splice out 0 (body_of arena (keys_of arena))) out

-- lent workspace: all zero once past the length checks, and before that as it was
abbrev pub space_after : (refusal : ℕ) → List ℕ → List ℕ
space_after refusal space = cond (eqb refusal 0) (replicate (length space) 0) space

-- what finish commits to: its answer, every byte of the output, every word of both workspaces
pub record FinishPost (arena out wide narrow : List ℕ) (r : Result ℕ Refusal) (out' wide' narrow' : List ℕ) : Type 0 where
  pub answer : r ≡ finish_of arena (length out) (length wide) (length narrow)
  pub out_after_is : out' ≡ out_after arena out (length wide) (length narrow)
  pub wide_after : wide' ≡ space_after (lengths_refusal arena (length out) (length wide) (length narrow)) wide
  pub narrow_after : narrow' ≡ space_after (lengths_refusal arena (length out) (length wide) (length narrow)) narrow

-- the values of an answer: the body's length
abbrev pub finished_values : Result ℕ Refusal → List ℕ
finished_values (Ok size) = size ∷ []
finished_values (Err refusal) = []
