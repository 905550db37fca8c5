-- Between the steps: what the functions of filter building ask of their workspace, and what each leaves.
use Rattle.std.specs.Prelude.{false, List, ◌≡◌, ℕ, ◌+◌, ◌*◌, ◌≤◌, ◌<◌, ◌^◌, length, Option, None, Some, Ok}
use Rattle.std.proofs.Math.Option.{Option as Maybe, none, some}
use Rattle.laws.specs.Count.{occurs}
use Rattle.words.specs.Field.{splice}
use Rattle.fuse.specs.declared.Sizes.{Sizes}
use Rattle.fuse.specs.Positions.{FitsCells}
use Rattle.fuse.specs.Asking.{contains_of}
use Rattle.sizing.specs.Table.{most_hashes}
use Rattle.sizing.specs.Sizing.{plan_of}
use Rattle.peel.specs.Peel.{cells_laid}
use Rattle.filter.specs.declared.Built.{Built}
use Rattle.filter.specs.declared.Built.TheVariants.{Positive, Fuse}
use Rattle.filter.specs.Building.{cells_for, first_attempt, by_attempt, by_plan, out_by}

-- the lengths past the checks
pub record Roomy (n wide narrow out : ℕ) : Type 0 where
  pub few : n ≤ most_hashes
  pub wide_room : cells_for n + n ≤ wide
  pub narrow_room : 2 * cells_for n + n ≤ narrow
  pub out_room : 48 + cells_for n ≤ out

-- the number of the attempt found
abbrev pub attempt_number : Maybe (ℕ × ℕ) → Option ℕ
attempt_number none = None
attempt_number (some (i, seed)) = Some (i + 1)

-- the cells, filled if a filter was built of the hashes
abbrev pub cells_by : Built → (hashes cells : List ℕ) → List ℕ
cells_by Positive hashes cells = cells
cells_by (Fuse s) hashes cells = cells_laid s.segment s.count s.seed hashes

-- lengths that the attempts work with
pub record Spaced (s : Sizes) (n wide narrow cells : ℕ) : Type 0 where
  pub fits : FitsCells s.segment s.count cells
  pub few : n + 1 < 2 ^ 32
  pub wide_room : cells + n ≤ wide
  pub narrow_room : cells + cells + n ≤ narrow

-- how the attempts ended, and the cells after them
pub record SearchPost (s : Sizes) (hashes before after : List ℕ) (attempt : Option ℕ) : Type 0 where
  pub first : attempt ≡ attempt_number (first_attempt s hashes)
  pub cells : after ≡ cells_by (by_attempt s (first_attempt s hashes)) hashes before

-- what was built over the cells
pub record CellsPost (s : Sizes) (hashes before after : List ℕ) (r : Built) : Type 0 where
  pub answer : r ≡ by_attempt s (first_attempt s hashes)
  pub cells : after ≡ cells_by r hashes before

-- the output with the cells in their place, before the header stands in front
abbrev pub made_by : Built → (hashes out : List ℕ) → List ℕ
made_by Positive hashes out = out
made_by (Fuse s) hashes out = splice out 48 (cells_laid s.segment s.count s.seed hashes)

-- what was built, and the output so far
pub record MakePost (hashes before after : List ℕ) (r : Built) : Type 0 where
  pub answer : r ≡ by_plan (plan_of (length hashes)) hashes
  pub output : after ≡ made_by r hashes before

-- the filter written
pub record LayPost (hashes before after : List ℕ) (r : Built) : Type 0 where
  pub answer : r ≡ by_plan (plan_of (length hashes)) hashes
  pub output : after ≡ out_by (Ok r) hashes before

-- one of the hashes is not in the cells
pub record Missing (cells : List ℕ) (s : Sizes) (hashes : List ℕ) : Type 0 where
  pub hash : ℕ
  pub given : 1 ≤ occurs hash hashes
  pub absent : contains_of cells s hash ≡ false
