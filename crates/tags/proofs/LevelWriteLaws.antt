-- Laws for the loops over the subsets of a mapping: one turn of each, and their end.
use Prim.Native.Nat.{ℕ, ◌+◌, ◌*◌, ◌<◌}
use mathlib.Core.Bool.{cond, ◌&&◌}
use mathlib.Core.List.{List, [], ◌∷◌}
use native.Mathlib.Numerals.{add-one}
use mathlib.Core.Path.{◌≡◌, ap, ◌∙◌}
use native.Mathlib.Omega.{arith}
use lib.ListN.{length, get_or, take, drop, drop_of_length-le}
use lib.Seq.{drop-cons}
use Rattle.tags.specs.Dimmer.{base_of, base_in_range, count_in_range, all_in_range}
use Rattle.tags.specs.DimmerLaws.{base_of_lem, count_of_lem}
use Rattle.tags.specs.LevelsLaws.{fit-sum, mapped-le-count}
use Rattle.tags.specs.Levels.{count_sum, mapped, mapped_sum, put_levels, put_subsets}

-- ---- one turn of a loop over subsets: the j-th of them has base b and count c, an octet

module _ (subsets : List ℕ) (j b c : ℕ) (h : j < length subsets) (octet : c < 256) (is : b * 256 + c ≡ get_or subsets j 0) where
  here : drop j subsets ≡ (b * 256 + c) ∷ drop (j + 1) subsets
  here = rw (is, add-one j) (drop-cons subsets j 0 h)

  pub count_sum_turn : count_sum (drop j subsets) ≡ c + count_sum (drop (j + 1) subsets)
  unfolding count_sum
  count_sum_turn = rw (here, count_of_lem b c octet)

  pub in_range_turn : all_in_range (drop j subsets) ≡ (base_in_range b && count_in_range b c && all_in_range (drop (j + 1) subsets))
  unfolding all_in_range
  in_range_turn = rw (here, base_of_lem b c octet, count_of_lem b c octet)

  pub mapped_sum_turn : mapped_sum (drop j subsets) ≡ cond (mapped b c) c 0 + mapped_sum (drop (j + 1) subsets)
  unfolding mapped_sum
  mapped_sum_turn = rw (here, base_of_lem b c octet, count_of_lem b c octet)

  pub put_subsets_turn : (mode : ℕ) (octets levels : List ℕ) → put_subsets mode (drop j subsets) octets levels
      ≡ put_subsets mode (drop (j + 1) subsets) (drop c octets) (put_levels mode b (take c octets) levels)
  unfolding put_subsets
  put_subsets_turn mode octets levels =
      let rest = drop (j + 1) subsets in
      ap (λ (l : List ℕ). put_subsets mode l octets levels) here
      ∙ ap (λ (k : ℕ). put_subsets mode rest (drop k octets) (put_levels mode (base_of (b * 256 + c)) (take k octets) levels)) (count_of_lem b c octet)
      ∙ ap (λ (k : ℕ). put_subsets mode rest (drop c octets) (put_levels mode k (take c octets) levels)) (base_of_lem b c octet)

-- the same of what is left behind the last of them
pub all_taken : (subsets : List ℕ) (j : ℕ) → j ≡ length subsets → drop j subsets ≡ []
all_taken subsets j e = drop_of_length-le subsets {i = j} (omega arith)

-- for the loop that writes
pub ruleset turns = (count_sum_turn, mapped_sum_turn, put_subsets_turn, all_taken, mapped-le-count)

-- no more are written than there are
pub ruleset bounds = (fit-sum, mapped-le-count)
