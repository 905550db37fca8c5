-- Building a filter, after document 01, "Arithmetic and construction" and "Calls".
use Rattle.std.specs.Prelude.{Bool, true, false, cond, List, [], ◌∷◌, ◌++◌, ◌≡◌, ℕ, ◌+◌, ◌*◌, ◌≤◌, ◌<◌, ltb, length, replicate, Result, Ok, Err}
use Rattle.std.proofs.Math.Option.{Option, none, some}
use Rattle.numbers.specs.declared.Refusal.{Refusal}
use Rattle.numbers.specs.Numbers.{answered}
use Rattle.laws.specs.Refusals.{Cause, cause, first_of}
use Rattle.laws.specs.Count.{occurs}
use Rattle.laws.specs.Steps.{least}
use Rattle.words.specs.Field.{splice}
use Rattle.mixing.specs.Mixing.{mix_of}
use Rattle.fuse.specs.declared.Sizes.{Sizes}
use Rattle.fuse.specs.Positions.{cells_in}
use Rattle.fuse.specs.Layout.{positive_bytes, fuse_header}
use Rattle.sizing.specs.declared.Plan.{Plan}
use Rattle.sizing.specs.declared.Plan.TheVariants as plan
use Rattle.sizing.specs.Table.{most_hashes}
use Rattle.sizing.specs.Sizing.{sizes_of, plan_of}
use Rattle.sort.specs.Sort.{sorted}
use Rattle.sort.specs.Twins.{repeats_next}
use Rattle.peel.specs.Peel.{succeeds, cells_laid}
use Rattle.filter.specs.declared.SstFilter.{SstFilter}
use Rattle.filter.specs.declared.SstFilter.TheVariants as read
use Rattle.filter.specs.declared.Built.{Built}
use Rattle.filter.specs.declared.Built.TheVariants.{Positive, Fuse}

-- ---- the checks

-- the cells of a plan: a Positive has none
abbrev pub plan_cells : Plan → ℕ
plan_cells plan.Positive = 0
plan_cells (plan.Fuse s) = cells_in s.segment s.count

-- the cells for n hashes
unfoldable pub cells_for : ℕ → ℕ
cells_for n = plan_cells (plan_of n)

-- for n hashes and c cells: more than the most hashes; workspace under c + n u64 or 2c + n u32; output under 48 + c bytes
abbrev pub build_causes : (n wide narrow out : ℕ) → List Cause
build_causes n wide narrow out =
    cause (ltb most_hashes n) 12 ∷ cause (ltb wide (cells_for n + n)) 9 ∷ cause (ltb narrow (2 * cells_for n + n)) 9 ∷ cause (ltb out (48 + cells_for n)) 6 ∷ []

-- the number that a call refuses with, 0 for none
unfoldable pub build_refusal : (n wide narrow out : ℕ) → ℕ
build_refusal n wide narrow out = first_of (build_causes n wide narrow out)

-- ---- what is built of the sorted hashes

-- whether attempt i, with seed mix(i), peels every hash
abbrev pub peels_by : Sizes → List ℕ → ℕ → Bool
peels_by s hashes i = succeeds s.segment s.count (mix_of i) hashes

-- what attempt i + 1 gives: its seed, if it peels every hash
abbrev pub seed_by : Sizes → List ℕ → ℕ → Option ℕ
seed_by s hashes i = cond (peels_by s hashes (i + 1)) (some (mix_of (i + 1))) none

-- the first of the attempts 1 to 100 that peels every hash: one less than its number, and its seed
unfoldable pub first_attempt : Sizes → List ℕ → Option (ℕ × ℕ)
first_attempt s hashes = least (seed_by s hashes) 100 0

-- the sizes with a seed
abbrev pub seeded : Sizes → (seed : ℕ) → Sizes
seeded s seed = record { keys = s.keys; seed = seed; segment = s.segment; count = s.count }

-- by the attempt that peels every hash: Positive if there is none
abbrev pub by_attempt : Sizes → Option (ℕ × ℕ) → Built
by_attempt s none = Positive
by_attempt s (some (i, seed)) = Fuse (seeded s seed)

-- by the plan: Positive for no hashes, and for two that are equal
unfoldable pub by_plan : Plan → List ℕ → Built
by_plan plan.Positive hashes = Positive
by_plan (plan.Fuse s) hashes = cond (repeats_next hashes) Positive (by_attempt s (first_attempt s hashes))

-- what is built, past the checks
unfoldable pub built_of : List ℕ → Built
built_of hashes = by_plan (plan_of (length hashes)) (sorted hashes)

-- a refusal, or what is built
unfoldable pub build_of : List ℕ → (wide narrow out : ℕ) → Result Built Refusal
build_of hashes wide narrow out = answered (build_refusal (length hashes) wide narrow out) (built_of hashes)

-- ---- what is lent, after each answer

-- the bytes written: the Positive layout, or the header and the cells
abbrev pub written_by : Result Built Refusal → (hashes : List ℕ) → List ℕ
written_by (Ok Positive) hashes = positive_bytes
written_by (Ok (Fuse s)) hashes = fuse_header s ++ cells_laid s.segment s.count s.seed hashes
written_by (Err r) hashes = []

-- how many they are
abbrev pub length_by : Result Built Refusal → ℕ
length_by (Ok Positive) = 48
length_by (Ok (Fuse s)) = 48 + cells_in s.segment s.count
length_by (Err r) = 0

-- this paper's value of an answer: that length, none for a refusal
abbrev pub built_values : Result Built Refusal → List ℕ
built_values (Ok Positive) = length_by (Ok Positive) ∷ []
built_values (Ok (Fuse s)) = length_by (Ok (Fuse s)) ∷ []
built_values (Err r) = []

-- the output: they stand in front of what stood there; refused, it is as it was
abbrev pub out_by : Result Built Refusal → (hashes out : List ℕ) → List ℕ
out_by (Ok Positive) hashes out = splice out 0 (written_by (Ok Positive) hashes)
out_by (Ok (Fuse s)) hashes out = splice out 0 (written_by (Ok (Fuse s)) hashes)
out_by (Err r) hashes out = out

-- the hashes: sorted, unless refused
abbrev pub hashes_by : Result Built Refusal → (hashes : List ℕ) → List ℕ
hashes_by (Ok Positive) hashes = sorted hashes
hashes_by (Ok (Fuse s)) hashes = sorted hashes
hashes_by (Err r) hashes = hashes

-- a workspace: zero, surplus too, unless refused
abbrev pub space_by : Result Built Refusal → (space : List ℕ) → List ℕ
space_by (Ok Positive) space = replicate (length space) 0
space_by (Ok (Fuse s)) space = replicate (length space) 0
space_by (Err r) space = space

-- what a call of build promises
pub record BuildPost (hashes wide narrow out : List ℕ) (r : Result Built Refusal) (hashes' wide' narrow' out' : List ℕ) : Type 0 where
  pub answer : r ≡ build_of hashes (length wide) (length narrow) (length out)
  pub hashes_after : hashes' ≡ hashes_by (build_of hashes (length wide) (length narrow) (length out)) hashes
  pub wide_after : wide' ≡ space_by (build_of hashes (length wide) (length narrow) (length out)) wide
  pub narrow_after : narrow' ≡ space_by (build_of hashes (length wide) (length narrow) (length out)) narrow
  pub out_after_is : out' ≡ out_by (build_of hashes (length wide) (length narrow) (length out)) (sorted hashes) out

-- ---- what is promised of an answer

-- why there is no filter: no hashes, two that are equal, or none of the attempts 1 to 100 peels every hash
pub data WhyPositive (hashes : List ℕ) : Type 0 where
  no_hashes : length hashes ≡ 0 → WhyPositive hashes
  equal_hashes : (v : ℕ) → 2 ≤ occurs v hashes → WhyPositive hashes
  no_attempt : ((i : ℕ) → 1 ≤ i → i ≤ 100 → peels_by (sizes_of (length hashes)) (sorted hashes) i ≡ false) → WhyPositive hashes

-- whose filter it is: all hashes are its keys, its sizes are those for so many, with 40 × cells ≥ 43 × hashes, and its seed is that of the
-- first attempt that peels every hash
pub record FilterOf (hashes : List ℕ) (s : Sizes) : Type 0 where
  pub attempt : ℕ
  pub some_hash : 1 ≤ length hashes
  pub numbered : (1 ≤ attempt) × (attempt ≤ 100)
  pub sizes : s ≡ seeded (sizes_of (length hashes)) (mix_of attempt)
  pub enough : 43 * length hashes ≤ 40 * cells_in s.segment s.count
  pub peels : peels_by (sizes_of (length hashes)) (sorted hashes) attempt ≡ true
  pub first : (i : ℕ) → 1 ≤ i → i < attempt → peels_by (sizes_of (length hashes)) (sorted hashes) i ≡ false

-- how the written bytes are read
abbrev pub as_read : Result Built Refusal → SstFilter
as_read (Ok Positive) = read.Positive
as_read (Ok (Fuse s)) = read.Fuse s
as_read (Err r) = read.Refused
