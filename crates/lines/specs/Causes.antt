-- The exact cause of each number that the listing prints as `refused R`: 16, and validation's 20 to 30; and which inputs are listed (document
-- 01, "The listing").
use Rattle.std.specs.Prelude.{ℕ, ◌<◌, ◌≤◌, ◌≡◌, List, length, Ok}
use Rattle.point.specs.Validate.{validate_of}
use Rattle.point.specs.Causes.{ValidationStops}
use Rattle.lines.specs.Listing.{data_length_in, body_in}

-- why an input is refused with a number: 16 under 16 or over 65,536 bytes; else what stops validation of its body for its data length
pub data ListingStops (input : List ℕ) : ℕ → Type 0 where
  too_short : length input < 16 → ListingStops input 16
  too_long : 65536 < length input → ListingStops input 16
  body_stops : {n : ℕ} → 16 ≤ length input → length input ≤ 65536 → ValidationStops (body_in input) (data_length_in input) n → ListingStops input n

-- an input of no more than 65,536 bytes whose body validation accepts for its data length
pub record Listable (input : List ℕ) : Type 0 where
  pub short : length input ≤ 65536
  pub accepted : validate_of (body_in input) (data_length_in input) ≡ Ok (record {})
