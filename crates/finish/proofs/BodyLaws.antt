-- The parts of a body: their lengths, and the parts written one after another. Assumes nothing.
use Prim.Native.Nat.{ℕ, ◌+◌, ◌-◌, ◌*◌, ◌≤◌, ◌<◌}
use native.Mathlib.Omega.{arith}
use mathlib.Core.Path.{◌≡◌, sym, ap, ap₂, ◌∙◌, subst}
use mathlib.Core.List.{List, ◌++◌, flat_map, append_assoc}
use lib.ListN.{length, get_or, length-append}
use Rattle.words.specs.Field.{bytes_of, splice}
use Rattle.words.proofs.Laws.{length_bytes_of, splice_then}
use Rattle.mixing.specs.Mixing.{fingerprint_of}
use Rattle.layout.proofs.HeaderLaws.{header_long, start_is}
use Rattle.construct.specs.Construct.{buckets_of, Placing}
use Rattle.finish.specs.Body.{arena_start, header_bytes, pilots_bytes, slot_bytes, held_slot, slots_bytes, body_bytes}
use Rattle.finish.specs.Inner.Needs.{Room, placed_as, PlacesListed, listed_slot, Filled, SlotsKnown}
use Rattle.finish.proofs.RowLaws.{flat_same, flat_long}

-- ---- lengths

pub slot_long : (offset fingerprint : ℕ) → length (slot_bytes offset fingerprint) ≡ 12
unfolding slot_bytes
slot_long offset fingerprint = simp (length-append, length_bytes_of)

pub held_long : (arena : List ℕ) (seed held : ℕ) → length (held_slot arena seed held) ≡ 12
unfolding held_slot
held_long arena seed held = slot_long _ _

pub listed_long : (wide : List ℕ) (n held : ℕ) → length (listed_slot wide n held) ≡ 12
unfolding listed_slot
listed_long wide n held = slot_long _ _

pub pilots_long : (pilots : List ℕ) → length (pilots_bytes pilots) ≡ 4 * length pilots
unfolding pilots_bytes
pilots_long pilots = flat_long (bytes_of 4) 4 (length_bytes_of 4) pilots

pub slots_long : (arena : List ℕ) (seed : ℕ) (slots : List ℕ) → length (slots_bytes arena seed slots) ≡ 12 * length slots
unfolding slots_bytes
slots_long arena seed slots = flat_long (held_slot arena seed) 12 (held_long arena seed) slots

pub body_long : (arena : List ℕ) (n seed : ℕ) (pl : Placing) → length pl.pilots ≡ buckets_of n → length pl.slots ≡ n → length (body_bytes arena n seed pl) ≡ arena_start n + length arena
unfolding body_bytes arena_start
body_long arena n seed pl ep es = simp (length-append, header_long, pilots_long, slots_long) (omega arith)

-- ---- parts written one after another

pub slot_written : (o0 o1 o2 o3 : List ℕ) (at offset fingerprint : ℕ) → at + 12 ≤ length o0 → o1 ≡ splice o0 at (bytes_of 8 offset) → o2 ≡ splice o1 (at + 8) (bytes_of 2 fingerprint)
    → o3 ≡ splice o2 (at + 10) (bytes_of 2 0) → o3 ≡ splice o0 at (slot_bytes offset fingerprint)
unfolding slot_bytes
slot_written o0 o1 o2 o3 at offset fingerprint h e1 e2 e3 =
    let m2 = bytes_of 8 offset ++ bytes_of 2 fingerprint in
    let l1 = length_bytes_of 8 offset in
    let l2 : length m2 ≡ 10 = simp (length-append, length_bytes_of) in
    let q2 : o2 ≡ splice o0 at m2 = e2 ∙ ap (λ (z : List ℕ). splice z (at + 8) (bytes_of 2 fingerprint)) e1 ∙ splice_then o0 at (bytes_of 8 offset) (at + 8) (bytes_of 2 fingerprint) (omega arith) (omega arith) in
    e3 ∙ ap (λ (z : List ℕ). splice z (at + 10) (bytes_of 2 0)) q2 ∙ splice_then o0 at m2 (at + 10) (bytes_of 2 0) (omega arith) (omega arith) ∙ ap (splice o0 at) (append_assoc (bytes_of 8 offset) (bytes_of 2 fingerprint) (bytes_of 2 0))

-- the slots by what the workspace holds are the slots of the keys
pub slots_listed : (arena wide wide' pilots slots : List ℕ) (n seed : ℕ) → PlacesListed arena n wide wide' → SlotsKnown arena wide pilots slots n seed
    → flat_map (listed_slot wide' n) slots ≡ slots_bytes arena seed slots
unfolding slots_bytes listed_slot held_slot
slots_listed arena wide wide' pilots slots n seed L W = flat_same (listed_slot wide' n) (held_slot arena seed) slots same
  where
    same : (s : ℕ) → s < length slots → listed_slot wide' n (get_or slots s 0) ≡ held_slot arena seed (get_or slots s 0)
    same s l =
        let m = get_or slots s 0 - 1 in
        let low : m < n = omega (arith, W.slots_filled.filled s l, W.slots_filled.keys s l) in
        ap₂ slot_bytes (L.places m low) (ap fingerprint_of (L.hashes m low ∙ W.hashes m low))

-- the room before the arena, by the number of pilots
pub room_start : (arena out wide pilots slots : List ℕ) (n seed : ℕ) → Room arena out wide n → SlotsKnown arena wide pilots slots n seed → 32 + 4 * length pilots + 12 * n + length arena ≤ length out
unfolding arena_start
room_start arena out wide pilots slots n seed R W = omega (arith, R.room, W.pilots_long)

-- ---- header and pilots, and the whole body

pub front_written : (o0 o1 o2 : List ℕ) (n seed : ℕ) (pilots : List ℕ) → 32 ≤ length o0 → o1 ≡ splice o0 0 (header_bytes seed n) → o2 ≡ splice o1 32 (pilots_bytes pilots) → o2 ≡ splice o0 0 (header_bytes seed n ++ pilots_bytes pilots)
front_written o0 o1 o2 n seed pilots h e1 e2 =
    let l = header_long seed n in
    e2 ∙ ap (λ (z : List ℕ). splice z 32 (pilots_bytes pilots)) e1 ∙ splice_then o0 0 (header_bytes seed n) 32 (pilots_bytes pilots) (omega arith) (omega arith)

pub body_written : (arena o0 o1 o2 o3 wide wide' pilots slots : List ℕ) (n seed start : ℕ) → Room arena o0 wide n → SlotsKnown arena wide pilots slots n seed → PlacesListed arena n wide wide' → start ≡ arena_start n
    → o1 ≡ splice o0 0 (header_bytes seed n ++ pilots_bytes pilots) → o2 ≡ splice o1 (32 + 4 * length pilots) (flat_map (listed_slot wide' (length slots)) slots) → o3 ≡ splice o2 start arena
    → o3 ≡ splice o0 0 (body_bytes arena n seed (placed_as pilots slots))
unfolding body_bytes
body_written arena o0 o1 o2 o3 wide wide' pilots slots n seed start R W L es e1 e2 e3 =
    let b = length pilots in
    let front = header_bytes seed n ++ pilots_bytes pilots in
    let body = slots_bytes arena seed slots in
    let ls = W.slots_long in
    let lf : length front ≡ 32 + 4 * b = simp (length-append, header_long, pilots_long) in
    let lb : length (front ++ body) ≡ 32 + 4 * b + 12 * n = length-append front body ∙ omega (arith, slots_long arena seed slots) in
    let room = room_start arena o0 wide pilots slots n seed R W in
    let st : start ≡ 32 + 4 * b + 12 * n = es ∙ start_is n b W.pilots_long in
    let listed : flat_map (listed_slot wide' (length slots)) slots ≡ body = ap (λ (x : ℕ). flat_map (listed_slot wide' x) slots) ls ∙ slots_listed arena wide wide' pilots slots n seed L W in
    let q2 : o2 ≡ splice o0 0 (front ++ body) = e2 ∙ ap (splice o1 (32 + 4 * b)) listed ∙ ap (λ (z : List ℕ). splice z (32 + 4 * b) body) e1 ∙ splice_then o0 0 front (32 + 4 * b) body (omega arith) (omega arith) in
    e3 ∙ ap (λ (z : List ℕ). splice z start arena) q2 ∙ splice_then o0 0 (front ++ body) start arena (omega arith) (omega arith) ∙ ap (splice o0 0) (simp append_assoc)

-- what the writing of the slots asks
pub slots_asked : (arena out wide pilots slots wide' out' : List ℕ) (n seed : ℕ) → Room arena out wide n → SlotsKnown arena wide pilots slots n seed → length wide' ≡ length wide → length out' ≡ length out
    → Filled (length slots) slots × (length wide' ≡ length slots + length slots) × (32 + 4 * length pilots + 12 * length slots ≤ length out')
slots_asked arena out wide pilots slots wide' out' n seed R W eh eo =
    let l = W.slots_long in
    let room = room_start arena out wide pilots slots n seed R W in
    (subst (λ (x : ℕ). Filled x slots) (sym l) W.slots_filled, omega (arith, R.long), omega arith)
