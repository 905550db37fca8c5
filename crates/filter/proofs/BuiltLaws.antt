-- What building promises: each number, and Positive, exactly for its causes; a filter has the right sizes and keys, is read as what was built,
-- and never calls one of its hashes absent; the closing check never fails; two results coincide. Assumes nothing.
use mathlib.Core.Path.{◌≡◌, refl, sym, ap, ◌∙◌, subst}
use mathlib.Core.Bool.{true}
use mathlib.Core.List.{List, [], ◌∷◌, ◌++◌}
use mathlib.Core.Option.{Option, none, some}
use Prim.Native.Nat.{ℕ, zero, suc, ◌+◌, ◌*◌, ◌^◌, ◌≤◌, ◌<◌}
use native.Mathlib.Omega.{arith}
use lib.ListN.{length, take, length-append}
use lib.Seq.{take_at}
use Rattle.std.specs.Prelude.{Result, Ok, Err}
use Rattle.numbers.specs.declared.Refusal.{Refusal}
use Rattle.numbers.specs.Numbers.{refusal_of, answered, number_of}
use Rattle.numbers.proofs.NumberLaws.{number_nonzero, refusal_number, Given, number_answered, given_first}
use Rattle.laws.specs.Each.{each_none, each_more}
use Rattle.laws.specs.Refusals.{First}
use Rattle.laws.proofs.RefusalLaws.{first_given, first_only}
use Rattle.laws.specs.Count.{occurs}
use Rattle.words.proofs.PartLaws.{splice_front}
use Rattle.mixing.specs.Mixing.{mix_of, mix_of_lt}
use Rattle.fuse.specs.declared.Sizes.{Sizes}
use Rattle.fuse.specs.Positions.{cells_in, Usable}
use Rattle.fuse.specs.Asking.{contains_of}
use Rattle.fuse.specs.Layout.{positive_bytes, fuse_header, Accepted}
use Rattle.fuse.proofs.HeaderLaws.{header_length, positive_length}
use Rattle.sizing.specs.Table.{most_hashes}
use Rattle.sizing.specs.Sizing.{sizes_of}
use Rattle.sizing.proofs.SizedLaws.{sizes_enough, sizes_accepted}
use Rattle.sort.specs.Sort.{sorted}
use Rattle.sort.proofs.TwinLaws.{sorted_doubles}
use Rattle.sort.proofs.SortLaws.{count_sorted}
use Rattle.peel.specs.Peel.{succeeds, cells_laid}
use Rattle.peel.proofs.AttemptLaws.{check_never_fails, cells_length}
use Rattle.filter.specs.declared.SstFilter.TheVariants as read
use Rattle.filter.specs.declared.Asked.TheVariants.{Maybe}
use Rattle.filter.specs.declared.Built.{Built}
use Rattle.filter.specs.declared.Built.TheVariants.{Positive, Fuse}
use Rattle.filter.specs.Reading.{read_of, positive, fuse}
use Rattle.filter.specs.Asking.{ask_of}
use Rattle.filter.specs.Building.{build_causes, build_refusal, first_attempt, seeded, by_attempt, built_of, build_of, written_by, length_by, built_values, out_by, BuildPost, WhyPositive, no_hashes, equal_hashes, no_attempt, FilterOf, as_read}
use Rattle.filter.proofs.ExactLaws.{layout_reads, positive_asks, fuse_asks}
use Rattle.filter.proofs.BuildingLaws.{attempt_none, none_attempt, attempt_some, roomy, Way, empty, double, tried, way}

built_way : (hashes : List ℕ) → Way (length hashes) (sorted hashes) (built_of hashes)
unfolding built_of
built_way hashes = way (length hashes) (sorted hashes)

-- ---- Positive, exactly for its causes

why : (hashes : List ℕ) (b : Built) → Way (length hashes) (sorted hashes) b → b ≡ Positive → WhyPositive hashes
why hashes b (empty z) e = no_hashes z
why hashes b (double t) e = let d = (sorted_doubles hashes).yes t in equal_hashes d.0 d.1
why hashes b (tried l t) e = go (first_attempt (sizes_of (length hashes)) (sorted hashes)) refl e
  where
    go : (o : Option (ℕ × ℕ)) → first_attempt (sizes_of (length hashes)) (sorted hashes) ≡ o → by_attempt (sizes_of (length hashes)) o ≡ Positive → WhyPositive hashes
    go none q p = no_attempt (none_attempt (sizes_of (length hashes)) (sorted hashes) q)
    go (some (i, a)) q p = cc

pub positive_why : (hashes : List ℕ) → built_of hashes ≡ Positive → WhyPositive hashes
positive_why hashes e = why hashes (built_of hashes) (built_way hashes) e

back : (hashes : List ℕ) (b : Built) → Way (length hashes) (sorted hashes) b → WhyPositive hashes → b ≡ Positive
back hashes b (empty z) w = refl
back hashes b (double t) w = refl
back hashes b (tried l t) (no_hashes z) = absurd (omega arith)
back hashes b (tried l t) (equal_hashes v k) = absurd (omega (arith, (sorted_doubles hashes).no t v))
back hashes b (tried l t) (no_attempt f) =
    ap (by_attempt (sizes_of (length hashes))) (attempt_none (sizes_of (length hashes)) (sorted hashes) f)

pub why_positive : (hashes : List ℕ) → WhyPositive hashes → built_of hashes ≡ Positive
why_positive hashes w = back hashes (built_of hashes) (built_way hashes) w

-- ---- a filter, and whose it is

seeded_enough : (n seed : ℕ) (s : Sizes) → s ≡ seeded (sizes_of n) seed → 1 ≤ n → n ≤ most_hashes → 43 * n ≤ 40 * cells_in s.segment s.count
unfolding sizes_of
seeded_enough n seed s e l few = subst (λ (x : Sizes). 43 * n ≤ 40 * cells_in x.segment x.count) (sym e) (sizes_enough n l few)

whose : (hashes : List ℕ) → length hashes ≤ most_hashes → (b : Built) → Way (length hashes) (sorted hashes) b → (s : Sizes) → b ≡ Fuse s → FilterOf hashes s
whose hashes few b (empty z) s e = cc
whose hashes few b (double t) s e = cc
whose hashes few b (tried l t) s e = go (first_attempt (sizes_of (length hashes)) (sorted hashes)) refl e
  where
    go : (o : Option (ℕ × ℕ)) → first_attempt (sizes_of (length hashes)) (sorted hashes) ≡ o → by_attempt (sizes_of (length hashes)) o ≡ Fuse s → FilterOf hashes s
    go none q p = cc
    go (some (i, a)) q p =
        let F = attempt_some (sizes_of (length hashes)) (sorted hashes) i a q in
        let r : seeded (sizes_of (length hashes)) a ≡ s = cc in
        let k : s ≡ seeded (sizes_of (length hashes)) (mix_of (i + 1)) = sym (ap (seeded (sizes_of (length hashes))) F.seed_mixed ∙ r) in
        record {
          attempt = i + 1;
          some_hash = l;
          numbered = (omega arith, omega (arith, F.below));
          sizes = k;
          enough = seeded_enough (length hashes) (mix_of (i + 1)) s k l few;
          peels = F.peels;
          first = F.first;
        }

pub built_filter : (hashes : List ℕ) → length hashes ≤ most_hashes → (s : Sizes) → built_of hashes ≡ Fuse s → FilterOf hashes s
built_filter hashes few s e = whose hashes few (built_of hashes) (built_way hashes) s e

module _ (hashes : List ℕ) (s : Sizes) (F : FilterOf hashes s) (few : length hashes ≤ most_hashes) where
  -- reading accepts its sizes beside its cells
  filter_accepted : Accepted s (length (cells_laid s.segment s.count s.seed (sorted hashes)))
  unfolding sizes_of
  filter_accepted =
      rw cells_length
      (subst (λ (x : Sizes). Accepted x (cells_in x.segment x.count)) (sym F.sizes)
      (sizes_accepted (length hashes) (mix_of F.attempt) F.some_hash (omega arith)))

  filter_usable : Usable s.segment s.count
  filter_usable = filter_accepted.fits.usable

  filter_seed : s.seed < 2 ^ 64
  filter_seed = subst (λ (x : Sizes). x.seed < 2 ^ 64) (sym F.sizes) (mix_of_lt F.attempt)

  -- the closing membership check never fails
  pub closing_check : (hash : ℕ) → 1 ≤ occurs hash hashes → contains_of (cells_laid s.segment s.count s.seed (sorted hashes)) s hash ≡ true
  closing_check hash k =
      check_never_fails s filter_usable (sorted hashes)
      (subst (λ (x : Sizes). succeeds x.segment x.count x.seed (sorted hashes) ≡ true) (sym F.sizes) F.peels) hash (omega (arith, count_sorted hash hashes))

-- ---- the bytes written

written_length : (r : Result Built Refusal) (hs : List ℕ) → length (written_by r hs) ≡ length_by r
written_length (Ok Positive) hs = positive_length
written_length (Ok (Fuse s)) hs =
    omega (arith, length-append (fuse_header s) (cells_laid s.segment s.count s.seed hs), header_length s, cells_length s.segment s.count s.seed hs)
written_length (Err r) hs = refl

written_by_lem : (r : Result Built Refusal) (hs out : List ℕ) → take (length_by r) (out_by r hs out) ≡ written_by r hs
written_by_lem (Ok Positive) hs out = ap (take 48) (splice_front out positive_bytes) ∙ take_at positive_bytes _ 48 positive_length
written_by_lem (Ok (Fuse s)) hs out =
    let r = Ok (Fuse s) in
    ap (take (length_by r)) (splice_front out (written_by r hs)) ∙ take_at (written_by r hs) _ (length_by r) (written_length r hs)
written_by_lem (Err r) hs out = refl

module _ (hashes : List ℕ) (few : length hashes ≤ most_hashes) where
  reads_by : (r : Result Built Refusal) → Ok (built_of hashes) ≡ r → read_of (written_by r (sorted hashes)) ≡ as_read r
  reads_by (Ok Positive) e = layout_reads positive_bytes read.Positive positive
  reads_by (Ok (Fuse s)) e =
      let F = built_filter hashes few s cc in
      layout_reads (fuse_header s ++ cells_laid s.segment s.count s.seed (sorted hashes)) (read.Fuse s)
      (fuse s (cells_laid s.segment s.count s.seed (sorted hashes)) (filter_accepted hashes s F few) (filter_seed hashes s F few))
  reads_by (Err r) e = cc

  asks_by : (r : Result Built Refusal) → Ok (built_of hashes) ≡ r → (hash : ℕ) → 1 ≤ occurs hash hashes → ask_of (written_by r (sorted hashes)) hash ≡ Maybe
  asks_by (Ok Positive) e hash k = positive_asks hash
  asks_by (Ok (Fuse s)) e hash k =
      let F = built_filter hashes few s cc in
      fuse_asks s (cells_laid s.segment s.count s.seed (sorted hashes)) (filter_accepted hashes s F few) (filter_seed hashes s F few) hash
      ∙ rw (closing_check hashes s F few hash k)
  asks_by (Err r) e hash k = cc

-- ---- the call

passed : (k : ℕ) (b : Built) (x : Result Built Refusal) → answered k b ≡ x → ((q : Refusal) → x ≡ Err q → ⊥) → (k ≡ 0) × (Ok b ≡ x)
passed zero b x e n = (refl, e)
passed (suc k) b x e n = absurd (n (refusal_of (suc k)) (sym e))

-- each check's number is a refusal's
numbers_given : (n wide narrow out : ℕ) → Given (build_refusal n wide narrow out)
unfolding build_refusal
numbers_given n wide narrow out = given_first (build_causes n wide narrow out) (each_more refl (each_more refl (each_more refl (each_more refl each_none))))

-- a number above 0 is a refusal's
pub number_refuses : (r : Result Built Refusal) (q : ℕ) → 0 < q → number_of r ≡ q → r ≡ Err (refusal_of q)
number_refuses (Ok b) q l e = absurd (omega arith)
number_refuses (Err r) q l e = ap Err (sym (ap refusal_of (sym e) ∙ refusal_number r))

module _ {hashes wide narrow out : List ℕ} {r : Result Built Refusal} {hashes' wide' narrow' out' : List ℕ} (P : BuildPost hashes wide narrow out r hashes' wide' narrow' out') where
  number : ℕ
  number = build_refusal (length hashes) (length wide) (length narrow) (length out)

  called : answered number (built_of hashes) ≡ r
  unfolding build_of number
  called = sym P.answer

  build_number : number_of r ≡ number
  unfolding number
  build_number =
      ap number_of (sym called) ∙ number_answered number (built_of hashes) (numbers_given (length hashes) (length wide) (length narrow) (length out))

  -- a number has its cause: the first of the checks that fails
  pub refused_cause : (q : ℕ) → 0 < q → number_of r ≡ q → First q (build_causes (length hashes) (length wide) (length narrow) (length out))
  unfolding build_refusal number
  refused_cause q l e = first_only q _ l (sym build_number ∙ e)

  -- and where a check fails its number is given
  pub cause_refused : (q : ℕ) → First q (build_causes (length hashes) (length wide) (length narrow) (length out)) → number_of r ≡ q
  unfolding build_refusal number
  cause_refused q f = build_number ∙ first_given f

  -- 0 is no refusal
  pub zero_accepts : number_of r ≡ 0 → (q : Refusal) → r ≡ Err q → ⊥
  zero_accepts z q e = number_nonzero q (ap number_of (sym e) ∙ z)

  -- what is no refusal is what was built, of no more than the most hashes
  unrefused : ((q : Refusal) → r ≡ Err q → ⊥) → (length hashes ≤ most_hashes) × (Ok (built_of hashes) ≡ r)
  unfolding number
  unrefused n =
      let p = passed number (built_of hashes) r called n in
      ((roomy (length hashes) (length wide) (length narrow) (length out) p.0).few, p.1)

  -- Positive has its exact causes
  pub positive_cause : r ≡ Ok Positive → WhyPositive hashes
  positive_cause e =
      let p : Ok (built_of hashes) ≡ r = (unrefused (λ q z. cc)).1 in
      positive_why hashes cc

  pub cause_positive : build_refusal (length hashes) (length wide) (length narrow) (length out) ≡ 0 → WhyPositive hashes → r ≡ Ok Positive
  unfolding number
  cause_positive z w = sym called ∙ ap (λ (k : ℕ). answered k (built_of hashes)) z ∙ ap Ok (why_positive hashes w)

  -- a filter is that of the hashes
  pub filter_cause : (s : Sizes) → r ≡ Ok (Fuse s) → FilterOf hashes s
  filter_cause s e =
      let p = unrefused (λ q z. cc) in
      let x : Ok (built_of hashes) ≡ r = p.1 in
      built_filter hashes p.0 s cc

  -- its sizes can be used
  pub built_usable : (s : Sizes) → r ≡ Ok (Fuse s) → Usable s.segment s.count
  built_usable s e = filter_usable hashes s (filter_cause s e) (unrefused (λ q z. cc)).0

  module _ (n : (q : Refusal) → r ≡ Err q → ⊥) where
    -- the bytes in front of the output
    pub written : take (length_by r) out' ≡ written_by r (sorted hashes)
    written =
        ap (take (length_by r)) (P.out_after_is ∙ ap (λ (b : Result Built Refusal). out_by b (sorted hashes) out) (sym P.answer))
        ∙ written_by_lem r (sorted hashes) out

    -- its value is how many they are
    pub built_values_is : built_values r ≡ length (take (length_by r) out') ∷ []
    built_values_is = go r n ∙ ap (λ (k : ℕ). k ∷ []) (sym (ap length written ∙ written_length r (sorted hashes)))
      where
        go : (b : Result Built Refusal) → ((q : Refusal) → b ≡ Err q → ⊥) → built_values b ≡ length_by b ∷ []
        go (Ok Positive) m = refl
        go (Ok (Fuse s)) m = refl
        go (Err q) m = absurd (m q refl)

    -- what is built is accepted by reading, with its sizes
    pub built_reads : read_of (take (length_by r) out') ≡ as_read r
    built_reads = let p = unrefused n in ap read_of written ∙ reads_by hashes p.0 r p.1

    -- a filter built of a set of hashes never calls one of them absent
    pub never_absent : (hash : ℕ) → 1 ≤ occurs hash hashes → ask_of (take (length_by r) out') hash ≡ Maybe
    never_absent hash k =
        let p = unrefused n in
        ap (λ (bytes : List ℕ). ask_of bytes hash) written ∙ asks_by hashes p.0 r p.1 hash k
