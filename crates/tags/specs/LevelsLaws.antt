-- Laws of levels (specs/Levels.antt): no more are written than the chunk has, and of a mapping in range all but the dropped ones.
use Rattle.std.specs.Prelude.{ℕ, ◌+◌, ◌≤◌, Bool, ◌&&◌, ◌||◌, List, [], ◌∷◌, ◌≡◌, refl, length, leb, eqb}
use Rattle.std.proofs.Common.{zero-le, arith, eqb-true, ne_eqb}
use Rattle.std.proofs.Math.Bool.{true, false, cond, and-false}
use Rattle.std.proofs.lemmas.Bool.{false≢true, eqb-false, lt-leb}
use Rattle.tags.specs.Limits.{last_level, level_end, drop_base}
use Rattle.tags.specs.ChoiceLaws.{and_left, and_right}
use Rattle.tags.specs.Dimmer.{Mapping, base_of, count_of, dropped, base_in_range, count_in_range, all_in_range, mapping_in_range}
use Rattle.tags.specs.Levels.{whole_base, count_sum, mapped, mapped_sum, levels_fit, levels_written}

-- the 43s that fit describe just the octets of the chunk
pub fit-sum : (m : Mapping) (n : ℕ) → levels_fit m n ≡ true → (length m.subsets ≡ 0 → ⊥) → n ≡ count_sum m.subsets
unfolding levels_fit
fit-sum m n f e = eqb-true n (count_sum m.subsets) (rw (ne_eqb (length m.subsets) 0 e) at f)

-- no more are written than described
pub mapped-le-count : (subsets : List ℕ) → mapped_sum subsets ≤ count_sum subsets
unfolding mapped_sum count_sum
mapped-le-count [] = zero-le
mapped-le-count (e ∷ es) = by_test (mapped-le-count es) (mapped (base_of e) (count_of e))
  where
    by_test : mapped_sum es ≤ count_sum es → (b : Bool) → cond b (count_of e) 0 + mapped_sum es ≤ count_of e + count_sum es
    by_test h true = omega arith
    by_test h false = omega arith

pub levels_written-le : (m : Mapping) (n : ℕ) → levels_fit m n ≡ true → levels_written m n ≤ n
unfolding levels_written
levels_written-le m n f = by_test (eqb (length m.subsets) 0) refl
  where
    whole : (b : Bool) → cond b n 0 ≤ n
    whole true = omega arith
    whole false = omega arith

    by_test : (b : Bool) → eqb (length m.subsets) 0 ≡ b → cond b (cond (mapped (whole_base m) n) n 0) (mapped_sum m.subsets) ≤ n
    by_test true e = whole (mapped (whole_base m) n)
    by_test false e = omega (arith, mapped-le-count m.subsets, fit-sum m n f (eqb-false (length m.subsets) 0 e))

-- ---- of a mapping in range, as check 13 leaves it, all are written but the dropped ones

-- a base in range with a count that fits is mapped or dropped, and not both
mapped-or-dropped : (b c : ℕ) → base_in_range b ≡ true → (leb (b + c) level_end || dropped b) ≡ true
    → cond (mapped b c) c 0 ≡ cond (dropped b) 0 c
mapped-or-dropped b c h g = by_tests (leb 1 b) (leb b last_level) (leb (b + c) level_end) (dropped b) h g far
  where
    far : dropped b ≡ true → leb (b + c) level_end ≡ false
    far e = lt-leb (b + c) level_end (omega (arith, eqb-true b drop_base e))

    by_tests : (low high ends drops : Bool) → (low && high || drops) ≡ true → (ends || drops) ≡ true → (drops ≡ true → ends ≡ false)
        → cond (low && ends) c 0 ≡ cond drops 0 c
    by_tests low high ends true r f k = rw (k refl, and-false low)
    by_tests true high true false r f k = refl
    by_tests true high false false r f k = absurd (false≢true f)
    by_tests false high ends false r f k = absurd (false≢true r)

-- the counts that are not dropped
unfoldable pub undropped_sum : List ℕ → ℕ
undropped_sum [] = 0
undropped_sum (e ∷ es) = cond (dropped (base_of e)) 0 (count_of e) + undropped_sum es

mapped-undropped : (subsets : List ℕ) → all_in_range subsets ≡ true → mapped_sum subsets ≡ undropped_sum subsets
unfolding all_in_range mapped_sum undropped_sum
mapped-undropped [] h = refl
mapped-undropped (e ∷ es) h =
    let b = base_of e in
    let c = count_of e in
    let here = and_left (base_in_range b && count_in_range b c) (all_in_range es) h in
    let fits = and_right (leb 1 c) (leb (b + c) level_end || dropped b) (and_right (base_in_range b) (count_in_range b c) here) in
    let one = mapped-or-dropped b c (and_left (base_in_range b) (count_in_range b c) here) fits in
    omega (arith, one, mapped-undropped es (and_right (base_in_range b && count_in_range b c) (all_in_range es) h))

module _ (m : Mapping) (n : ℕ) (ranged : mapping_in_range m ≡ true) (fits : levels_fit m n ≡ true) where
  whole_in_range : base_in_range (whole_base m) ≡ true
  whole_in_range = by_base (eqb m.base 0) (and_left (eqb m.base 0 || base_in_range m.base) (all_in_range m.subsets) ranged)
    where
      by_base : (none : Bool) → (none || base_in_range m.base) ≡ true → base_in_range (cond none 1 m.base) ≡ true
      by_base true h = refl
      by_base false h = h

  pub levels_written-undropped : levels_written m n
      ≡ cond (eqb (length m.subsets) 0) (cond (dropped (whole_base m)) 0 n) (undropped_sum m.subsets)
  unfolding levels_written levels_fit
  levels_written-undropped = by_subsets (eqb (length m.subsets) 0) fits
    where
      by_subsets : (none : Bool)
          → cond none (leb (whole_base m + n) level_end || dropped (whole_base m)) (eqb n (count_sum m.subsets)) ≡ true
          → cond none (cond (mapped (whole_base m) n) n 0) (mapped_sum m.subsets)
          ≡ cond none (cond (dropped (whole_base m)) 0 n) (undropped_sum m.subsets)
      by_subsets true f = mapped-or-dropped (whole_base m) n whole_in_range f
      by_subsets false f =
          mapped-undropped m.subsets (and_right (eqb m.base 0 || base_in_range m.base) (all_in_range m.subsets) ranged)
