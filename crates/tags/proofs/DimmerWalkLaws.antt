-- Laws for the functions of the walk over dimmer tags: what stands at a place of the octets is what stands at the start of the rest; the
-- walk from tag to tag; and the mapping put into the record that C has.
use Prim.Native.Nat.{ℕ, zero, suc, ◌+◌, ◌-◌, ◌<◌, ◌≤◌}
use mathlib.Core.Bool.{Bool, true, false, cond, not, ◌&&◌, ◌||◌, or-false}
use mathlib.Core.List.{List, [], ◌∷◌, ◌++◌, map}
use mathlib.Core.Path.{◌≡◌, refl, sym, ap, ◌∙◌}
use native.Mathlib.Nat.{add-zero, add-suc}
use native.Mathlib.Numerals.{add-one}
use native.Mathlib.Omega.{arith}
use lib.ListN.{length, get_or, set, take, drop, length-map, length-drop}
use lib.Seq.{drop-drop, take-suc, length-take-le}
use lib.Dec.{ltb, leb, eqb, eqb-suc-zero, lit≤}
use borrow.Author.Tests.{ltb-false, ne_eqb, eqb-true}
use Rattle.std.specs.List.{list_any}
use Rattle.std.specs.Prelude.{Ok, Err}
use Rattle.std.proofs.Common.{get_or-drop}
use Rattle.std.proofs.lemmas.List.{map-append}
use Rattle.std.proofs.lemmas.Bool.Decides.{nat_tests}
use Rattle.tags.specs.Limits.{subset_limit}
use Rattle.tags.specs.Choice.{refuse}
use Rattle.tags.specs.ChoiceLaws.{or-false_left, or-false_right, first-zero_left, refuse-zero}
use Rattle.tags.specs.Dimmer.{Mapping, no_mapping, operands, pair_at, subset_at, overlap, overlaps_any, bad_dimmer_tag, clashing_tag, dimmer_tag_number, mapping_with, DimmerWalk, nothing_mapped, read_dimmer, step_dimmer, dimmed, dimmer_number, dimmer_mapping}
use Rattle.tags.specs.Layout.{padded, dimmer_of, empty_dimmer, dimmer_mapped}
use Rattle.tags.specs.DimmerView.{subset_number, unread, tag_at, tag_read, tag_clashes, clash_if, with_tag, mapped_in}
use Rattle.tags.specs.declared.refusal.Refusal.{Refusal}
use Rattle.tags.specs.declared.refusal.Refusal.TheVariants.{BadDimmerTag, Clash}
use Rattle.tags.specs.declared.dimming.Subset.{Subset}
use Rattle.tags.specs.declared.dimming.Tag.{Tag}
use Rattle.tags.specs.declared.dimming.Tag.TheVariants.{Skip, Whole, Part}
use Rattle.tags.proofs.ArrayLaws.{set-padded}

-- ---- the tag in place i is the first of the octets from there on

module _ (tags : List ℕ) (i : ℕ) where
  first_octet : get_or (drop i tags) 0 0 ≡ get_or tags i 0
  first_octet = get_or-drop i tags 0 0 ∙ ap (λ (k : ℕ). get_or tags k 0) (add-zero i)

  third_octet : get_or (drop i tags) 2 0 ≡ get_or tags (i + 1 + 1) 0
  third_octet = let place : i + 2 ≡ i + 1 + 1 = omega arith in rw (← place) (get_or-drop i tags 2 0)

  first_pair : pair_at (drop i tags) 1 ≡ pair_at tags (i + 1)
  first_pair = rw (get_or-drop i tags 1 0, third_octet) refl

  bad_first : i ≤ length tags → bad_dimmer_tag (drop i tags) 0 ≡ bad_dimmer_tag tags i
  unfolding bad_dimmer_tag
  bad_first h =
      rw (first_octet, first_pair, get_or-drop i tags 3 0, past_end (operands (get_or tags i 0))) refl
    where
      past_end : (n : ℕ) → ltb (length (drop i tags)) (1 + n) ≡ ltb (length tags) (i + 1 + n)
      past_end n = rw (length-drop i tags) (grind (arith, nat_tests))

  clashes_first : (m : Mapping) → clashing_tag tags i m ≡ tag_clashes (tag_at (drop i tags)) m
  unfolding clashing_tag
  clashes_first m =
      rw (first_octet, first_pair, get_or-drop i tags 3 0)
      (by_tests (eqb (get_or tags i 0) 0x42) (eqb (get_or tags i 0) 0x43) (λ e. ne_eqb (get_or tags i 0) 0x43 (λ f. omega (arith, eqb-true (get_or tags i 0) 0x42 e))))
    where
      by_tests : (a b : Bool) → (a ≡ true → b ≡ false)
          → a && (not (eqb m.base 0) || ltb 0 (length m.subsets)) || b && (not (eqb m.base 0) || leb subset_limit (length m.subsets) || overlaps_any (subset_at tags i) m.subsets)
          ≡ tag_clashes (cond a (Whole (pair_at tags (i + 1))) (cond b (Part (record { base = pair_at tags (i + 1); count = get_or tags (i + 3) 0 })) Skip)) m
      by_tests true true e = cc (e refl)
      by_tests true false e = or-false _
      by_tests false true e = refl
      by_tests false false e = refl

  with_first : (m : Mapping) → mapping_with tags i m ≡ with_tag (tag_at (drop i tags)) m
  unfolding mapping_with
  with_first m =
      rw (first_octet, first_pair, get_or-drop i tags 3 0)
      (by_tests (eqb (get_or tags i 0) 0x42) (eqb (get_or tags i 0) 0x43) (λ e. ne_eqb (get_or tags i 0) 0x43 (λ f. omega (arith, eqb-true (get_or tags i 0) 0x42 e))))
    where
      by_tests : (a b : Bool) → (a ≡ true → b ≡ false)
          → record { base = cond a (pair_at tags (i + 1)) m.base; subsets = cond b (m.subsets ++ (subset_at tags i ∷ [])) m.subsets }
          ≡ with_tag (cond a (Whole (pair_at tags (i + 1))) (cond b (Part (record { base = pair_at tags (i + 1); count = get_or tags (i + 3) 0 })) Skip)) m
      by_tests true true e = cc (e refl)
      by_tests true false e = refl
      by_tests false true e = refl
      by_tests false false e = refl

-- ---- the walk from tag to tag

module _ (tags : List ℕ) (i : ℕ) (m : Mapping) (passes : dimmer_tag_number tags i m ≡ 0) where
  tag_good : bad_dimmer_tag tags i ≡ false
  unfolding dimmer_tag_number
  tag_good = refuse-zero (bad_dimmer_tag tags i) 13 (lit≤ tt) (first-zero_left _ (refuse (clashing_tag tags i m) 14) passes)

  -- a tag that passes ends within the octets
  pub tag_within : i + (1 + operands (get_or tags i 0)) ≤ length tags
  unfolding bad_dimmer_tag
  tag_within =
      let t = get_or tags i 0 in
      let unknown = not (ltb t 16 || eqb t 0x42 || eqb t 0x43) in
      let short = ltb (length tags) (i + 1 + operands t) in
      let long = or-false_right unknown short (or-false_left (unknown || short) _ (or-false_left _ _ tag_good)) in
      omega (arith, ltb-false (length tags) (i + 1 + operands t) long)

-- the octets that belong to a tag are passed over
passed_over : (tags : List ℕ) (i k : ℕ) (m : Mapping) → dimmed tags i ≡ record { refusal = 0; skip = k; mapping = m }
    → dimmed tags (i + k) ≡ unread m
unfolding dimmed step_dimmer
passed_over tags i zero m e = rw (add-zero i) e
passed_over tags i (suc k) m e =
    let less : suc k - 1 ≡ k = omega arith in
    let next : i + suc k ≡ suc i + k = omega arith in
    rw next (passed_over tags (suc i) k m (rw (e, eqb-suc-zero k, less)))

module _ (tags : List ℕ) (i : ℕ) (m : Mapping) (at : dimmed tags i ≡ unread m) where
  pub tag_refuses : (dimmer_tag_number tags i m ≡ 0 → ⊥) → dimmed tags (suc i) ≡ nothing_mapped (dimmer_tag_number tags i m)
  unfolding dimmed step_dimmer read_dimmer
  tag_refuses h = rw (at, ne_eqb (dimmer_tag_number tags i m) 0 h)

  pub tag_passes : dimmer_tag_number tags i m ≡ 0 → dimmed tags (i + (1 + operands (get_or tags i 0))) ≡ unread (mapping_with tags i m)
  unfolding dimmed step_dimmer read_dimmer
  tag_passes h =
      let own = operands (get_or tags i 0) in
      let next : i + (1 + own) ≡ suc i + own = omega arith in
      rw next (passed_over tags (suc i) own (mapping_with tags i m) (rw (at, h)))

-- a refusal stays to the end
module _ (tags : List ℕ) (i n : ℕ) (at : dimmed tags i ≡ nothing_mapped n) (h : n ≡ 0 → ⊥) where
  stays : (k : ℕ) → dimmed tags (i + k) ≡ nothing_mapped n
  unfolding dimmed step_dimmer
  stays zero = rw (add-zero i) at
  stays (suc k) = rw (add-suc i k, stays k, ne_eqb n 0 h)

  pub refused-mapped : i ≤ length tags → record { number = n; dimmer = empty_dimmer } ≡ dimmer_mapped tags
  unfolding dimmer_number dimmer_mapping
  refused-mapped le =
      let all : i + (length tags - i) ≡ length tags = omega arith in
      let end = rw all at (stays (length tags - i)) in
      sym (ap (λ (s : DimmerWalk). record { number = s.refusal; dimmer = dimmer_of s.mapping }) end)

-- ---- the loop: the walk has come to a tag with `rest` left

pub record Reached (tags rest : List ℕ) (m : Mapping) : Type 0 where
  pub short : length rest ≤ length tags
  pub rest_is : rest ≡ drop (length tags - length rest) tags
  pub walked : dimmed tags (length tags - length rest) ≡ unread m

pub begins : (tags : List ℕ) → Reached tags tags no_mapping
unfolding dimmed
begins tags = let none : length tags - length tags ≡ 0 = omega arith in record { short = omega arith; rest_is = rw none refl; walked = rw none refl }

module _ (tags rest : List ℕ) (m : Mapping) (reached : Reached tags rest m) where
  abbrev place : ℕ
  place = length tags - length rest

  bad : bad_dimmer_tag rest 0 ≡ bad_dimmer_tag tags place
  bad = ap (λ (l : List ℕ). bad_dimmer_tag l 0) reached.rest_is ∙ bad_first tags place (omega arith)

  clashes : clashing_tag tags place m ≡ tag_clashes (tag_at rest) m
  clashes = clashes_first tags place m ∙ ap (λ (l : List ℕ). tag_clashes (tag_at l) m) (sym reached.rest_is)

  pub ends : length rest ≡ 0 → record { number = 0; dimmer = dimmer_of m } ≡ dimmer_mapped tags
  unfolding dimmer_number dimmer_mapping
  ends e =
      let all : place ≡ length tags = omega (arith, reached.short) in
      let whole = rw all at reached.walked in
      sym (ap (λ (s : DimmerWalk). record { number = s.refusal; dimmer = dimmer_of s.mapping }) whole)

  abbrev size : ℕ
  size = 1 + operands (get_or rest 0 0)

  module _ (more : 0 < length rest) where
    pub refused_bad : bad_dimmer_tag rest 0 ≡ true → record { number = 13; dimmer = empty_dimmer } ≡ dimmer_mapped tags
    unfolding dimmer_tag_number
    refused_bad e =
        let number : dimmer_tag_number tags place m ≡ 13 = rw (sym bad ∙ e) refl in
        refused-mapped tags (suc place) 13 (tag_refuses tags place m reached.walked (λ z. omega (arith, number, z)) ∙ ap nothing_mapped number) (λ z. omega (arith, z)) (omega (arith, reached.short))

    pub refused_clash : bad_dimmer_tag rest 0 ≡ false → tag_clashes (tag_at rest) m ≡ true
        → record { number = 14; dimmer = empty_dimmer } ≡ dimmer_mapped tags
    unfolding dimmer_tag_number
    refused_clash e f =
        let number : dimmer_tag_number tags place m ≡ 14 = rw (sym bad ∙ e, clashes ∙ f) refl in
        refused-mapped tags (suc place) 14 (tag_refuses tags place m reached.walked (λ z. omega (arith, number, z)) ∙ ap nothing_mapped number) (λ z. omega (arith, z)) (omega (arith, reached.short))

    module _ (good : bad_dimmer_tag rest 0 ≡ false) (free : tag_clashes (tag_at rest) m ≡ false) where
      passes : dimmer_tag_number tags place m ≡ 0
      unfolding dimmer_tag_number
      passes = rw (sym bad ∙ good, clashes ∙ free) refl

      first : get_or rest 0 0 ≡ get_or tags place 0
      first = ap (λ (l : List ℕ). get_or l 0 0) reached.rest_is ∙ first_octet tags place

      pub size_within : size ≤ length rest
      size_within = let within = rw (← first) at (tag_within tags place m passes) in omega (arith, reached.short, within)

      pub passed : Reached tags (drop size rest) (with_tag (tag_at rest) m)
      passed =
          let left : length (drop size rest) ≡ length rest - size = length-drop size rest in
          let next : length tags - length (drop size rest) ≡ place + size = omega (arith, left, size_within, reached.short) in
          record {
            short = omega (arith, left, reached.short);
            rest_is = rw next (ap (drop size) reached.rest_is ∙ drop-drop size place tags);
            walked = rw next (rw (← first) at (tag_passes tags place m reached.walked passes) ∙ ap unread (with_first tags place m ∙ ap (λ (l : List ℕ). with_tag (tag_at l) m) (sym reached.rest_is)));
          }

    -- the same by what the calls answer

    pub read_refused : (r : Refusal) → tag_read rest ≡ Err r → mapped_in (Err r) ≡ dimmer_mapped tags
    read_refused r e = by_test (bad_dimmer_tag rest 0) refl e
      where
        by_test : (b : Bool) → bad_dimmer_tag rest 0 ≡ b → cond b (Err BadDimmerTag) (Ok (tag_at rest)) ≡ Err r → mapped_in (Err r) ≡ dimmer_mapped tags
        by_test true b f = let same : BadDimmerTag ≡ r = cc in rw (← same) (refused_bad b)
        by_test false b f = cc

    module _ (tag : Tag) (read : tag_read rest ≡ Ok tag) where
      read_is : (bad_dimmer_tag rest 0 ≡ false) × (tag_at rest ≡ tag)
      read_is = by_test (bad_dimmer_tag rest 0) refl read
        where
          by_test : (b : Bool) → bad_dimmer_tag rest 0 ≡ b → cond b (Err BadDimmerTag) (Ok (tag_at rest)) ≡ Ok tag → (bad_dimmer_tag rest 0 ≡ false) × (tag_at rest ≡ tag)
          by_test true b f = cc
          by_test false b f = (b, cc)

      pub take_refused : (r : Refusal) → clash_if (tag_clashes tag m) ≡ Err r → mapped_in (Err r) ≡ dimmer_mapped tags
      take_refused r e = by_test (tag_clashes tag m) refl e
        where
          by_test : (b : Bool) → tag_clashes tag m ≡ b → clash_if b ≡ Err r → mapped_in (Err r) ≡ dimmer_mapped tags
          by_test true b f = let same : Clash ≡ r = cc in rw (← same) (refused_clash read_is.0 (rw read_is.1 b))
          by_test false b f = cc

      module _ (u : Unit {0}) (take : clash_if (tag_clashes tag m) ≡ Ok u) where
        pub free : tag_clashes tag m ≡ false
        free = by_test (tag_clashes tag m) take
          where
            by_test : (b : Bool) → clash_if b ≡ Ok u → b ≡ false
            by_test true f = cc
            by_test false f = refl

        pub within : size ≤ length rest
        within = size_within read_is.0 (rw read_is.1 free)

        pub taken : Reached tags (drop size rest) (with_tag tag m)
        taken = rw read_is.1 at (passed read_is.0 (rw read_is.1 free))

-- ---- subsets

pub overlaps_map : (e : ℕ) (subsets : List Subset) → list_any (λ o. overlap e (subset_number o)) subsets ≡ overlaps_any e (map subset_number subsets)
unfolding overlaps_any
overlaps_map e [] = refl
overlaps_map e (s ∷ subsets) = ap (λ (b : Bool). overlap e (subset_number s) || b) (overlaps_map e subsets)

-- one part of each subset, base or count, stored after those of the i subsets so far
pub stored : (f : ℕ → ℕ) (subsets : List Subset) (i v : ℕ) (parts : List ℕ) (x : Subset) → i < length subsets → length subsets ≤ subset_limit
    → f (subset_number (get_or subsets i x)) ≡ v → parts ≡ padded subset_limit (map f (map subset_number (take i subsets)))
    → set parts i v ≡ padded subset_limit (map f (map subset_number (take (i + 1) subsets)))
stored f subsets i v parts x h few e p =
    let held = map f (map subset_number (take i subsets)) in
    let long : length held ≡ i =
    length-map (map subset_number (take i subsets)) f ∙ length-map (take i subsets) subset_number ∙ length-take-le i subsets (omega arith) in
    rw (add-one i, take-suc subsets i x h, map-append, map-append, e)
    (ap (λ (l : List ℕ). set l i v) p ∙ set-padded subset_limit i held v long (omega arith))
