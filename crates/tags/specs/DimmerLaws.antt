-- Laws of the dimmer tags' definitions (specs/Dimmer.antt).
use Prim.Native.Nat.{ℕ, zero, suc, ◌+◌, ◌-◌, ◌*◌, ◌<◌, ◌≤◌, zero-le}
use Rattle.std.specs.Prelude.{Bool, cond, not, ◌&&◌, ◌||◌, List, [], ◌∷◌, ◌++◌, ◌≡◌, length, ltb, leb, eqb}
use Rattle.std.proofs.Math.Bool.{true, false, and-true, and-eq-true_iff}
use Rattle.std.proofs.Math.Path.{refl}
use Rattle.std.proofs.Common.{arith, length-append}
use Rattle.std.proofs.Math.ListN.{get_or}
use Rattle.std.proofs.Math.Arith.{digits_div, digits_mod}
use borrow.Author.Tests.{leb-false, eqb-true, not-false}
use Rattle.tags.specs.Limits.{subset_limit}
use Rattle.tags.specs.Dimmer.{Mapping, base_in_range, count_in_range, operands, base_of, count_of, pair_at, subset_at, overlaps_any, bad_dimmer_tag, clashing_tag, dimmer_tag_number, mapping_with, no_mapping, DimmerWalk, nothing_mapped, read_dimmer, step_dimmer, dimmed, dimmer_number, dimmer_mapping, all_in_range, mapping_in_range}
use Rattle.tags.specs.Choice.{refuse, first}
use Rattle.tags.specs.ChoiceLaws.{or-false_left, or-false_right}

-- ---- a subset

-- base and count of a subset, where the count is an octet
pub base_of_lem : (b c : ℕ) → c < 256 → base_of (b * 256 + c) ≡ b
base_of_lem b c h = digits_div b h

pub count_of_lem : (b c : ℕ) → c < 256 → count_of (b * 256 + c) ≡ c
count_of_lem b c h = digits_mod b h

-- ---- a tag that passes, by what it is

middle-false : (a b c : Bool) → a || b || c ≡ false → b ≡ false
middle-false a b c e = or-false_right a b (or-false_left (a || b) c e)

module _ (tags : List ℕ) (i : ℕ) (m : Mapping) where
  pub clash_room : get_or tags i 0 ≡ 0x43 → clashing_tag tags i m ≡ false → length m.subsets < subset_limit
  unfolding clashing_tag
  clash_room t e =
      leb-false subset_limit (length m.subsets)
      (middle-false (not (eqb m.base 0)) (leb subset_limit (length m.subsets)) (overlaps_any (subset_at tags i) m.subsets) (rw t at e))

-- ---- what holds of the walk: at its start, at each refusal, and past each octet

module _ (tags : List ℕ) (P : DimmerWalk → Type 0) (begins : P (nothing_mapped 0)) (thirteen : P (nothing_mapped 13)) (fourteen : P (nothing_mapped 14))
    (skips : (s : DimmerWalk) → P s → P (record { refusal = 0; skip = s.skip - 1; mapping = s.mapping }))
    (passes : (i : ℕ) (s : DimmerWalk) → P s → bad_dimmer_tag tags i ≡ false → clashing_tag tags i s.mapping ≡ false
    → P (record { refusal = 0; skip = operands (get_or tags i 0); mapping = mapping_with tags i s.mapping }))
  where
    read-holds : (i : ℕ) (s : DimmerWalk) → P s → P (read_dimmer tags i s)
    unfolding read_dimmer dimmer_tag_number
    read-holds i s h = by_tests (bad_dimmer_tag tags i) (clashing_tag tags i s.mapping) refl refl
      where
        by_tests : (a c : Bool) → bad_dimmer_tag tags i ≡ a → clashing_tag tags i s.mapping ≡ c
            → P (cond (eqb (first (refuse a 13) (refuse c 14)) 0)
            (record { refusal = 0; skip = operands (get_or tags i 0); mapping = mapping_with tags i s.mapping })
            (nothing_mapped (first (refuse a 13) (refuse c 14))))
        by_tests true c e f = thirteen
        by_tests false true e f = fourteen
        by_tests false false e f = passes i s h e f

    step-holds : (i : ℕ) (s : DimmerWalk) → P s → P (step_dimmer tags i s)
    unfolding step_dimmer
    step-holds i s h = by_tests (eqb s.refusal 0) (eqb s.skip 0)
      where
        by_tests : (a c : Bool)
            → P (cond a (cond c (read_dimmer tags i s) (record { refusal = 0; skip = s.skip - 1; mapping = s.mapping })) s)
        by_tests false c = h
        by_tests true true = read-holds i s h
        by_tests true false = skips s h

    dimmed-holds : (n : ℕ) → P (dimmed tags n)
    unfolding dimmed
    dimmed-holds zero = begins
    dimmed-holds (suc i) = step-holds i (dimmed tags i) (dimmed-holds i)

-- ---- for the layer above

-- what checks 13 and 14 leave of a mapping: a base in range, or 0 without a 42; subsets within their limit, each in range
pub record Ranged (m : Mapping) : Type 0 where
  pub base : eqb m.base 0 || base_in_range m.base ≡ true
  pub few : length m.subsets ≤ subset_limit
  pub each : all_in_range m.subsets ≡ true

ranged_none : Ranged no_mapping
unfolding all_in_range
ranged_none = record { base = refl; few = zero-le; each = refl }

all_in_range-append : (es : List ℕ) (e : ℕ) → all_in_range es ≡ true → base_in_range (base_of e) && count_in_range (base_of e) (count_of e) ≡ true
    → all_in_range (es ++ (e ∷ [])) ≡ true
unfolding all_in_range
all_in_range-append [] e h g = rw (and-true _) g
all_in_range-append (f ∷ es) e h g =
    let a = base_in_range (base_of f) && count_in_range (base_of f) (count_of f) in
    let both = (and-eq-true_iff a (all_in_range es)).0 h in
    (and-eq-true_iff a (all_in_range (es ++ (e ∷ [])))).1 (both.0, all_in_range-append es e both.1 g)

right_true : (a b : Bool) → b ≡ true → a || b ≡ true
right_true true b e = refl
right_true false b e = e

-- A tag that passes checks 13 and 14 leaves the mapping in range. That the tags are octets is asked, since a count above 255 would
-- run over into the base.
module _ (tags : List ℕ) (i : ℕ) (m : Mapping) (octets : (k : ℕ) → get_or tags k 0 < 256) (good : bad_dimmer_tag tags i ≡ false) where
  base_in_range_lem : get_or tags i 0 ≡ 0x42 → base_in_range (pair_at tags (i + 1)) ≡ true
  unfolding bad_dimmer_tag
  base_in_range_lem t =
      not-false (base_in_range (pair_at tags (i + 1)))
      (middle-false (ltb (length tags) (i + 1 + 2)) (not (base_in_range (pair_at tags (i + 1)))) false (rw t at good))

  subset-in_range : get_or tags i 0 ≡ 0x43
      → base_in_range (base_of (subset_at tags i)) && count_in_range (base_of (subset_at tags i)) (count_of (subset_at tags i)) ≡ true
  unfolding bad_dimmer_tag
  subset-in_range t =
      let b = pair_at tags (i + 1) in
      let c = get_or tags (i + 3) 0 in
      rw (base_of_lem b c (octets (i + 3)), count_of_lem b c (octets (i + 3)))
      (not-false (base_in_range b && count_in_range b c)
      (or-false_right (ltb (length tags) (i + 1 + 3) || false) (not (base_in_range b && count_in_range b c)) (rw t at good)))

  ranged_with : clashing_tag tags i m ≡ false → Ranged m → Ranged (mapping_with tags i m)
  unfolding mapping_with
  ranged_with free r =
      record {
        base = by_base (eqb t 0x42) refl;
        few = by_few (eqb t 0x43) refl;
        each = by_each (eqb t 0x43) refl;
      }
    where
      t : ℕ
      t = get_or tags i 0

      by_base : (b : Bool) → eqb t 0x42 ≡ b
          → eqb (cond b (pair_at tags (i + 1)) m.base) 0 || base_in_range (cond b (pair_at tags (i + 1)) m.base) ≡ true
      by_base true e =
          right_true (eqb (pair_at tags (i + 1)) 0) (base_in_range (pair_at tags (i + 1))) (base_in_range_lem (eqb-true t 0x42 e))
      by_base false e = r.base

      by_few : (b : Bool) → eqb t 0x43 ≡ b → length (cond b (m.subsets ++ (subset_at tags i ∷ [])) m.subsets) ≤ subset_limit
      by_few true e =
          rw (length-append m.subsets (subset_at tags i ∷ []))
          (omega (arith, clash_room tags i m (eqb-true t 0x43 e) free))
      by_few false e = r.few

      by_each : (b : Bool) → eqb t 0x43 ≡ b → all_in_range (cond b (m.subsets ++ (subset_at tags i ∷ [])) m.subsets) ≡ true
      by_each true e = all_in_range-append m.subsets (subset_at tags i) r.each (subset-in_range (eqb-true t 0x43 e))
      by_each false e = r.each

-- a refusal leaves no mapping
pub dimmer_refused_none : (tags : List ℕ) → (dimmer_number tags ≡ 0 → ⊥) → dimmer_mapping tags ≡ no_mapping
unfolding dimmer_number dimmer_mapping
dimmer_refused_none tags =
    dimmed-holds tags (λ s. (s.refusal ≡ 0 → ⊥) → s.mapping ≡ no_mapping) (λ n. refl) (λ n. refl) (λ n. refl)
    (λ s h n. absurd (n refl)) (λ i s h e f n. absurd (n refl)) (length tags)

pub dimmer_mapping-ranged : (tags : List ℕ) → ((k : ℕ) → get_or tags k 0 < 256) → Ranged (dimmer_mapping tags)
unfolding dimmer_mapping
dimmer_mapping-ranged tags octets =
    dimmed-holds tags (λ s. Ranged s.mapping) ranged_none ranged_none ranged_none
    (λ s h. h) (λ i s h e f. ranged_with tags i s.mapping octets e f h) (length tags)

-- the same as a test, which a stored mapping can be held to
pub dimmer_mapping-in_range : (tags : List ℕ) → ((k : ℕ) → get_or tags k 0 < 256) → mapping_in_range (dimmer_mapping tags) ≡ true
dimmer_mapping-in_range tags octets =
    let ranged = dimmer_mapping-ranged tags octets in
    rw (ranged.base, ranged.each)
