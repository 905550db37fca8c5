-- What finish makes is accepted: the body of an arena that finish takes passes validation with any data that covers its records, its table is
-- the arena's table, and get on it is the lookup there. Assumes nothing.
use Rattle.std.specs.Prelude.{None, Ok}
use Prim.Native.Nat.{ℕ, zero, suc, ◌+◌, ◌-◌, ◌^◌, ◌<◌, ◌≤◌}
use native.Mathlib.Nat.{add-zero}
use native.Mathlib.Omega.{arith}
use mathlib.Core.Path.{◌≡◌, refl, sym, ap, ap₂, ◌∙◌, subst}
use mathlib.Core.Bool.{Bool, false, cond}
use mathlib.Core.List.{List, [], ◌∷◌, ◌++◌, flat_map}
use mathlib.Core.Option.{Option, none, some}
use mathlib.Core.Logic.{⊎_elim}
use lib.ListN.{length, get_or, drop, get_or-eq_default}
use lib.Seq.{drop_at}
use borrow.Author.Tests.{lt-leb}
use Rattle.laws.proofs.Cases.{lt_or_ge}
use Rattle.laws.proofs.RefusalLaws.{or_else_zero}
use Rattle.numbers.specs.Limits.{most_keys}
use Rattle.numbers.specs.Numbers.{answered}
use Rattle.words.specs.Field.{bytes_of}
use Rattle.words.proofs.Laws.{bytes_bytes_of, bytes_append}
use Rattle.words.specs.Field.{AllBytes}
use Rattle.mixing.specs.Mixing.{hash_of, fingerprint_of, seed_of, bucket_of, bucket_of_lt, seed_of_lt}
use Rattle.mixing.proofs.SlotLaws.{some_buckets}
use Rattle.layout.specs.Layout.{index_magic, seed_in, keys_in, buckets_in, arena_in, header_refusal, pilot_at, direct_past, pilot_of, slot_of, slot_place, record_offset, fingerprint_wide}
use Rattle.layout.proofs.HeaderLaws.{passes, seed_read, keys_read, buckets_read, start_read, header_fine}
use Rattle.records.specs.Limits.{Limit}
use Rattle.records.specs.Model.{Entry, table_bytes, lookup}
use Rattle.records.specs.Places.{key_at, entries_from, entry_place}
use Rattle.records.specs.Rules.{unslotted}
use Rattle.records.specs.Tables.{TableRules, TableInData}
use Rattle.records.proofs.PassedLaws.{entries_count, place_rises, walk_ends}
use Rattle.records.proofs.TableLaws.{table_tested}
use Rattle.records.proofs.Theorems.{read_back, read_whole, table_few, table_most}
use Rattle.construct.specs.Construct.{buckets_of, direct, size, Placing, slot_by, index_of}
use Rattle.construct.specs.Keys.{arena_key, attempt_hashes}
use Rattle.construct.specs.Promised.{AllPlaced, Pilots}
use Rattle.construct.proofs.KeysLaws.{hashes_long}
use Rattle.point.specs.Validate.{pilots_refusal, validate_of}
use Rattle.point.specs.Get.{get_of}
use Rattle.point.specs.Table.{table_of, key_place, key_slot, Belongs, answer_to}
use Rattle.point.specs.Table as table
use Rattle.point.proofs.Theorems.{accepts, get_is_lookup}
use Rattle.finish.specs.Body.{arena_start, header_bytes, pilots_bytes, slot_bytes, held_slot, slots_bytes, body_bytes, placed_of, body_from, body_of}
use Rattle.finish.specs.Finish.{walked, keys_of, untaken, lengths_refusal, placing_refusal, finish_refusal, body_length, finish_of}
use Rattle.finish.proofs.LengthLaws.{Lengths, lengths}
use Rattle.finish.proofs.BodyLaws.{body_long}
use Rattle.finish.proofs.FinishLaws.{refused_by, hash_at}
use Rattle.finish.proofs.SelfCheck.{placed_whole}
use Rattle.finish.proofs.ShiftLaws.{key_moved, entries_moved, place_moved}
use Rattle.finish.proofs.FieldLaws.{pilot_read, offset_read, print_read, before_arena}

-- ---- an arena that finish takes

pub record Made (arena : List ℕ) : Type 0 where
  pub attempt : ℕ
  pub placing : Placing
  pub taken : placed_of arena (keys_of arena) ≡ some (attempt, placing)
  pub whole : (walked arena).end ≡ length arena
  pub any : 0 < keys_of arena
  pub most : keys_of arena ≤ most_keys

module _ (arena : List ℕ) (out wide narrow k : ℕ) where
  -- a body is answered where nothing refuses, with its length
  pub body_answered : finish_of arena out wide narrow ≡ Ok k → (finish_refusal arena out wide narrow ≡ 0) × (k ≡ body_length arena (keys_of arena))
  unfolding finish_of
  body_answered e = go (finish_refusal arena out wide narrow) e
    where
      go : (r : ℕ) → answered r (body_length arena (keys_of arena)) ≡ Ok k → (r ≡ 0) × (k ≡ body_length arena (keys_of arena))
      go zero q = (refl, let z : body_length arena (keys_of arena) ≡ k = cc in sym z)
      go (suc r) q = absurd (let z : ◌≡◌ {A = ℕ} 0 1 = cc in omega arith)

  pub made : finish_of arena out wide narrow ≡ Ok k → Made arena
  unfolding placing_refusal
  made e = go (placed_of arena (keys_of arena)) refl (passes (untaken (placed_of arena (keys_of arena))) 9 _ both.1).0
    where
      both : (lengths_refusal arena out wide narrow ≡ 0) × (placing_refusal arena (keys_of arena) ≡ 0)
      both = or_else_zero _ _ (sym (refused_by arena out wide narrow) ∙ (body_answered e).0)

      L : Lengths (length arena) (walked arena).end (keys_of arena) out wide narrow
      L = lengths (length arena) (walked arena).end (keys_of arena) out wide narrow both.0

      go : (o : Option (ℕ × Placing)) → placed_of arena (keys_of arena) ≡ o → untaken o ≡ false → Made arena
      go none q z = absurd (let t : ◌≡◌ {A = ℕ} 0 1 = cc in omega arith)
      go (some (i, pl)) q z = record { attempt = i; placing = pl; taken = q; whole = L.whole; any = L.some; most = L.few }

-- ---- pilots

pilots_fine : (body : List ℕ) (n i k : ℕ) → ((j : ℕ) → j < i + k → direct_past n (pilot_at body j) ≡ false) → pilots_refusal body n i k ≡ 0
unfolding pilots_refusal
pilots_fine body n i zero h = refl
pilots_fine body n i (suc k) h = ap (λ (t : Bool). cond t 22 (pilots_refusal body n (suc i) k)) (h i (omega arith)) ∙ pilots_fine body n (suc i) k (λ j l. h j (omega arith))

-- every pilot of an attempt is below 2^31 + n
pilot_low : (hs pilots : List ℕ) → Pilots hs pilots → (k : ℕ) → k < buckets_of (length hs) → get_or pilots k 0 < direct + length hs
pilot_low hs pilots P k l = go (size hs k) refl
  where
    go : (x : ℕ) → size hs k ≡ x → get_or pilots k 0 < direct + length hs
    go zero e = omega (arith, P.empty k l e)
    go (suc zero) e = let s = P.single k l e in omega (arith, s.named, s.low)
    go (suc (suc y)) e = let s = P.several k l (omega arith) in omega (arith, s.tried)

-- ---- bytes

-- a list of bytes
record Bytes (xs : List ℕ) : Type 0 where
  each : AllBytes xs

join : {xs ys : List ℕ} → Bytes xs → Bytes ys → Bytes (xs ++ ys)
join {xs} {ys} a b = record { each = bytes_append xs ys a.each b.each }

number : (k v : ℕ) → Bytes (bytes_of k v)
number k v = record { each = bytes_bytes_of k v }

row : (f : ℕ → List ℕ) → ((x : ℕ) → Bytes (f x)) → (xs : List ℕ) → Bytes (flat_map f xs)
unfolding flat_map
row f h [] = record { each = λ i. omega arith }
row f h (x ∷ xs) = join (h x) (row f h xs)

magic_bytes : index_magic ≡ bytes_of 8 3623234197252098379
unfolding bytes_of
magic_bytes = refl

slot_bytes_lem : (arena : List ℕ) (seed held : ℕ) → Bytes (held_slot arena seed held)
unfolding held_slot slot_bytes
slot_bytes_lem arena seed held = join (number 8 _) (join (number 2 _) (number 2 0))

pub body_bytes_lem : (arena : List ℕ) (n seed : ℕ) (pl : Placing) → AllBytes arena → AllBytes (body_bytes arena n seed pl)
unfolding body_bytes header_bytes pilots_bytes slots_bytes
body_bytes_lem arena n seed pl all =
    (join
    (join (subst Bytes (sym magic_bytes) (number 8 3623234197252098379)) (join (number 8 seed) (join (number 4 n) (join (number 4 (buckets_of n)) (number 8 (arena_start n))))))
    (join (row (bytes_of 4) (number 4) pl.pilots) (join (row (held_slot arena seed) (slot_bytes_lem arena seed) pl.slots) (record { each = all })))).each

-- ---- the body

module _ (arena : List ℕ) (M : Made arena) (all : AllBytes arena) where
  n : ℕ
  n = keys_of arena

  seed : ℕ
  seed = seed_of M.attempt

  hs : List ℕ
  hs = attempt_hashes arena (keys_of arena) M.attempt

  body : List ℕ
  body = body_bytes arena (keys_of arena) (seed_of M.attempt) M.placing

  pub body_is : body_of arena (keys_of arena) ≡ body_bytes arena (keys_of arena) (seed_of M.attempt) M.placing
  unfolding body_of
  body_is = ap (body_from arena (keys_of arena)) M.taken

  hashes_many : length hs ≡ n
  unfolding hs n attempt_hashes
  hashes_many = hashes_long (seed_of M.attempt) arena (keys_of arena)

  whole : AllPlaced hs M.placing
  unfolding hs
  whole = (placed_whole arena (keys_of arena) M.attempt M.placing M.any M.taken).0

  least : Pilots hs M.placing.pilots
  unfolding hs
  least = (placed_whole arena (keys_of arena) M.attempt M.placing M.any M.taken).1

  pilots_many : length M.placing.pilots ≡ buckets_of n
  pilots_many = whole.pilots_long ∙ ap buckets_of hashes_many

  slots_many : length M.placing.slots ≡ n
  slots_many = whole.slots_long ∙ hashes_many

  front : List ℕ
  front = header_bytes seed n ++ (pilots_bytes M.placing.pilots ++ slots_bytes arena seed M.placing.slots)

  split : body ≡ front ++ arena
  unfolding body front seed n pilots_many slots_many
  split = (before_arena arena (keys_of arena) seed M.placing M.most pilots_many slots_many).0

  front_long : length front ≡ arena_start n
  unfolding front seed n
  front_long = (before_arena arena (keys_of arena) seed M.placing M.most pilots_many slots_many).1

  low : n < 2 ^ 32
  unfolding n
  low = omega (arith, M.most)

  start_of : arena_in body ≡ length front
  unfolding body body_bytes seed n
  start_of = start_read seed n low _ ∙ sym front_long

  keys_of_lem : keys_in body ≡ n
  unfolding body body_bytes n
  keys_of_lem = keys_read _ n low _

  buckets_of_lem : buckets_in body ≡ buckets_of n
  unfolding body body_bytes n
  buckets_of_lem = buckets_read _ n low _

  seed_of_lem : seed_in body ≡ seed
  unfolding body body_bytes seed n
  seed_of_lem = seed_read _ n low _ (seed_of_lt M.attempt)

  -- the table of the arena
  t : List Entry
  t = entries_from arena 0 (keys_of arena)

  table_rules : TableRules None t
  unfolding t walked
  table_rules = (read_back unslotted arena None 0 0 (length arena) all (omega arith)).rules

  table_bytes_lem : arena ≡ table_bytes t
  unfolding t walked
  table_bytes_lem = read_whole unslotted arena None (length arena) all M.whole

  some_arena : 0 < length arena
  unfolding t
  some_arena = omega (arith, ap length table_bytes_lem, table_few t, entries_count arena 0 (keys_of arena), M.any)

  -- THEOREM: the body's table is the arena's table
  table_same : table_of body ≡ t
  unfolding table_of t n
  table_same =
      ap₂ (entries_from body) (start_of ∙ sym (add-zero (length front))) keys_of_lem
      ∙ ap (λ (z : List ℕ). entries_from z (length front + 0) (keys_of arena)) split
      ∙ entries_moved front arena 0 (keys_of arena)

  -- where key j stands in the body, and the key
  place_of_lem : (j : ℕ) → key_place body j ≡ length front + entry_place arena 0 j
  unfolding key_place
  place_of_lem j =
      ap (λ (x : ℕ). entry_place body x j) (start_of ∙ sym (add-zero (length front)))
      ∙ ap (λ (z : List ℕ). entry_place z (length front + 0) j) split ∙ place_moved front arena 0 j

  key_of : (j : ℕ) → table.body_key body j ≡ arena_key arena j
  key_of j = ap (key_at body) (place_of_lem j) ∙ ap (λ (z : List ℕ). key_at z (length front + entry_place arena 0 j)) split ∙ key_moved front arena (entry_place arena 0 j)

  -- the hash of key j
  hash_of_lem : (j : ℕ) → j < n → hash_of (seed_in body) (table.body_key body j) ≡ get_or hs j 0
  unfolding hs n seed attempt_hashes
  hash_of_lem j l = ap₂ hash_of seed_of_lem (key_of j) ∙ sym (hash_at (seed_of M.attempt) arena (keys_of arena) j l)

  any_key : 0 < n
  unfolding n
  any_key = M.any

  -- the pilot of a hash, and its slot
  pilot_at_lem : (k : ℕ) → k < buckets_of n → (pilot_at body k ≡ get_or M.placing.pilots k 0) × (get_or M.placing.pilots k 0 < direct + n)
  unfolding body n
  pilot_at_lem k l =
      let low : get_or M.placing.pilots k 0 < direct + keys_of arena = omega (arith, pilot_low hs M.placing.pilots least k (omega (arith, ap buckets_of hashes_many)), hashes_many) in
      let most = M.most in
      (pilot_read arena (keys_of arena) (seed_of M.attempt) M.placing M.most k (omega (arith, pilots_many)) (omega arith), low)

  slot_of_lem : (h : ℕ) → slot_of body h ≡ index_of h M.placing.pilots n
  unfolding pilot_of index_of
  slot_of_lem h =
      let low : bucket_of h (buckets_of n) < buckets_of n = bucket_of_lt h (buckets_of n) (some_buckets n any_key) in
      ap₂ (λ (x y : ℕ). slot_by h y x) keys_of_lem (ap (λ (x : ℕ). pilot_at body (bucket_of h x)) buckets_of_lem ∙ (pilot_at_lem (bucket_of h (buckets_of n)) low).0)
      ∙ ap (λ (x : ℕ). slot_by h (get_or M.placing.pilots (bucket_of h x) 0) n) (sym pilots_many)

  -- slot s holds key j
  holds : (j : ℕ) → j < n → (s : ℕ) → s ≡ index_of (get_or hs j 0) M.placing.pilots n → (get_or M.placing.slots s 0 ≡ suc j) × (s < length M.placing.slots)
  holds j l s e =
      let f : get_or M.placing.slots s 0 ≡ suc j = ap (λ (x : ℕ). get_or M.placing.slots x 0) (e ∙ ap (index_of (get_or hs j 0) M.placing.pilots) (sym hashes_many)) ∙ whole.found j (omega (arith, hashes_many)) in
      (f, ⊎_elim (λ (z : s < length M.placing.slots). z) (λ (z : length M.placing.slots ≤ s). absurd (omega (arith, f, get_or-eq_default M.placing.slots 0 z))) (lt_or_ge s (length M.placing.slots)))

  -- at most 65,536 keys within the rules: fewer than 2^64 bytes
  arena_low : length arena < 2 ^ 64
  unfolding t
  arena_low = omega (arith, ap length table_bytes_lem, table_most None t table_rules.entries, entries_count arena 0 (keys_of arena), M.most)

  -- every place is below 2^64
  place_low : (j : ℕ) → j < n → entry_place arena 0 j < 2 ^ 64
  unfolding n walked
  place_low j l =
      let e : (walked arena).end ≡ entry_place arena 0 (keys_of arena) = walk_ends unslotted arena None 0 0 (length arena) in
      omega (arith, place_rises arena 0 j (keys_of arena) l, e, M.whole, arena_low)

  -- slot s, where it holds key j
  offset_of : (s : ℕ) → s < length M.placing.slots → (j : ℕ) → get_or M.placing.slots s 0 - 1 ≡ j → j < n → record_offset body (slot_place body s) ≡ entry_place arena 0 j
  unfolding body n
  offset_of s ls j m l =
      offset_read arena (keys_of arena) (seed_of M.attempt) M.placing M.most pilots_many s ls (subst (λ (x : ℕ). entry_place arena 0 x < 2 ^ 64) (sym m) (place_low j l)) ∙ ap (entry_place arena 0) m

  print_of : (s : ℕ) → s < length M.placing.slots → (j : ℕ) → get_or M.placing.slots s 0 - 1 ≡ j → fingerprint_wide body (slot_place body s) ≡ fingerprint_of (hash_of seed (arena_key arena j))
  unfolding body n seed
  print_of s ls j m =
      print_read arena (keys_of arena) (seed_of M.attempt) M.placing M.most pilots_many s ls ∙ ap (λ (x : ℕ). fingerprint_of (hash_of (seed_of M.attempt) (arena_key arena x))) m

  belongs : (j : ℕ) → j < n → Belongs body (key_slot body (table.body_key body j)) j
  belongs j l =
      let h = hash_of (seed_in body) (table.body_key body j) in
      let s = slot_of body h in
      let es : s ≡ index_of (get_or hs j 0) M.placing.pilots n = slot_of_lem h ∙ ap (λ (x : ℕ). index_of x M.placing.pilots n) (hash_of_lem j l) in
      let f = holds j l s es in
      let m : get_or M.placing.slots s 0 - 1 ≡ j = omega (arith, f.0) in
      record {
        slot = refl;
        place = ap₂ (λ (x y : ℕ). x + y) start_of (offset_of s f.1 j m l) ∙ sym (place_of_lem j);
        fingerprint = print_of s f.1 j m ∙ ap fingerprint_of (sym (ap₂ hash_of seed_of_lem (key_of j)));
      }

  -- ---- 20 to 22

  long : length body ≡ arena_start n + length arena
  unfolding body n
  long = body_long arena (keys_of arena) (seed_of M.attempt) M.placing pilots_many slots_many

  header_passed : header_refusal body ≡ 0
  unfolding body body_bytes n
  header_passed =
      let some = some_arena in
      let most = M.most in
      header_fine _ _ (omega arith) _ M.any (omega arith) (omega (arith, long))

  pilots_passed : pilots_refusal body (keys_in body) 0 (buckets_in body) ≡ 0
  pilots_passed =
      ap₂ (λ (x y : ℕ). pilots_refusal body x 0 y) keys_of_lem buckets_of_lem
      ∙ pilots_fine body n 0 (buckets_of n) (λ j l. let p = pilot_at_lem j (omega arith) in ap (direct_past n) p.0 ∙ lt-leb (direct + n) (get_or M.placing.pilots j 0) p.1)

  -- THEOREM: the body is accepted with any data that covers the arena's records
  made_accepted : (cover : ℕ) → TableInData cover t → validate_of body cover ≡ Ok (record {})
  unfolding t n
  made_accepted cover h =
      accepts body cover t header_passed pilots_passed (entries_count arena 0 (keys_of arena) ∙ sym keys_of_lem)
      (ap₂ drop start_of split ∙ drop_at front arena (length front) refl ∙ table_bytes_lem)
      (table_tested None cover t table_rules h) (λ j l. belongs j (omega (arith, keys_of_lem)))

module _ (arena : List ℕ) (out wide narrow k : ℕ) (all : AllBytes arena) (e : finish_of arena out wide narrow ≡ Ok k) where
  -- THEOREM: for any arena that finish takes, the body is accepted with any data length that covers its records
  pub finish_accepted : (cover : ℕ) → TableInData cover (entries_from arena 0 (keys_of arena)) → validate_of (body_of arena (keys_of arena)) cover ≡ Ok (record {})
  unfolding body t
  finish_accepted cover h = ap (λ (z : List ℕ). validate_of z cover) (body_is arena (made arena out wide narrow k e) all) ∙ made_accepted arena (made arena out wide narrow k e) all cover h

  -- THEOREM: its table is the arena's table
  pub finish_table : table_of (body_of arena (keys_of arena)) ≡ entries_from arena 0 (keys_of arena)
  unfolding body t
  finish_table = ap table_of (body_is arena (made arena out wide narrow k e) all) ∙ table_same arena (made arena out wide narrow k e) all

  -- THEOREM: it is as long as finish answers
  pub finish_length : length (body_of arena (keys_of arena)) ≡ k
  unfolding body n
  finish_length =
      ap length (body_is arena (made arena out wide narrow k e) all) ∙ long arena (made arena out wide narrow k e) all
      ∙ sym (body_answered arena out wide narrow k e).1

  -- it is bytes
  pub finish_bytes : AllBytes (body_of arena (keys_of arena))
  finish_bytes =
      let M = made arena out wide narrow k e in
      subst AllBytes (sym (body_is arena M all)) (body_bytes_lem arena (keys_of arena) (seed_of M.attempt) M.placing all)

  -- THEOREM: get on it is the lookup in the arena's table
  pub finish_get : (cover : ℕ) → TableInData cover (entries_from arena 0 (keys_of arena)) → (key : List ℕ) (limit : Limit)
      → get_of (body_of arena (keys_of arena)) cover key limit ≡ answer_to (lookup (entries_from arena 0 (keys_of arena)) key limit)
  finish_get cover h key limit =
      get_is_lookup (body_of arena (keys_of arena)) cover (finish_accepted cover h) finish_bytes key limit
      ∙ ap (λ (z : List Entry). answer_to (lookup z key limit)) finish_table
