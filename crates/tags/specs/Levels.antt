-- Levels to places (document 01, "Dimmer tags, modes 4 and 6" and check 21): which octets of a dimmer chunk go to which of the 1,024
-- lent places.
use Rattle.std.specs.Prelude.{ℕ, ◌+◌, ◌-◌, Bool, cond, not, ◌&&◌, ◌||◌, List, [], ◌∷◌, ◌++◌, length, take, drop, ltb, leb, eqb}
use Rattle.tags.specs.Limits.{level_end, place_count}
use Rattle.tags.specs.Dimmer.{Mapping, base_of, count_of, dropped, mapping_in_range}

-- the base of the contiguous set: that of the 42, and "with neither 42 nor 43 the base is 1"
abbrev pub whole_base : Mapping → ℕ
whole_base m = cond (eqb m.base 0) 1 m.base

-- the octets that the 43s describe, dropped ones included
unfoldable pub count_sum : List ℕ → ℕ
count_sum [] = 0
count_sum (e ∷ es) = count_of e + count_sum es

-- check 21 passes for n levels: "With 43, levels differ from the sum of all counts, dropped ones included; without 43, base +
-- levels passes 513 (FFFF excepted)" does not hold
unfoldable pub levels_fit : Mapping → ℕ → Bool
levels_fit m n =
    cond (eqb (length m.subsets) 0)
    (leb (whole_base m + n) level_end || dropped (whole_base m))
    (eqb n (count_sum m.subsets))

-- "Level number b is place b - 1 of the lent levels for mode 4, place 511 + b for mode 6"; every mode but 6 is taken for 4
abbrev pub place_of_level : ℕ → ℕ → ℕ
place_of_level mode b = cond (eqb mode 6) (511 + b) (b - 1)

-- n levels from level number b on are all of 1 to 512, and so have places. FFFF, which drops its octets, is none of them; a base or a count
-- that checks 13 and 21 would refuse, as only a record that a host made holds, maps nothing.
abbrev pub mapped : ℕ → ℕ → Bool
mapped b n = leb 1 b && leb (b + n) level_end

-- the levels with `part` written from level number b on; nothing where it is not mapped, nor where it would pass the end of what is lent
unfoldable pub put_levels : ℕ → ℕ → List ℕ → List ℕ → List ℕ
put_levels mode b part levels =
    cond (mapped b (length part) && leb (place_of_level mode b + length part) (length levels))
    (take (place_of_level mode b) levels ++ part ++ drop (place_of_level mode b + length part) levels)
    levels

-- the 43s in order, each taking its count of the octets from the front
unfoldable pub put_subsets : ℕ → List ℕ → List ℕ → List ℕ → List ℕ
put_subsets mode [] octets levels = levels
put_subsets mode (e ∷ es) octets levels =
    put_subsets mode es (drop (count_of e) octets) (put_levels mode (base_of e) (take (count_of e) octets) levels)

-- the lent levels after the octets of an accepted dimmer chunk
unfoldable pub levels_after : ℕ → Mapping → List ℕ → List ℕ → List ℕ
levels_after mode m octets levels =
    cond (eqb (length m.subsets) 0)
    (put_levels mode (whole_base m) octets levels)
    (put_subsets mode m.subsets octets levels)

-- how many octets the 43s map: "dropped ones don't count as written". Of mappings in range they are all but the dropped ones
-- (specs/LevelsLaws.antt).
unfoldable pub mapped_sum : List ℕ → ℕ
mapped_sum [] = 0
mapped_sum (e ∷ es) = cond (mapped (base_of e) (count_of e)) (count_of e) 0 + mapped_sum es

-- levels written, of n levels in the chunk
unfoldable pub levels_written : Mapping → ℕ → ℕ
levels_written m n =
    cond (eqb (length m.subsets) 0) (cond (mapped (whole_base m) n) n 0) (mapped_sum m.subsets)

-- ---- what the writing of levels does, check 21 included: where the octets do not fit, nothing is written and 0 are counted

unfoldable pub levels_drawn : ℕ → Mapping → List ℕ → List ℕ → List ℕ
levels_drawn mode m octets levels = cond (levels_fit m (length octets)) (levels_after mode m octets levels) levels

unfoldable pub levels_counted : Mapping → ℕ → ℕ
levels_counted m n = cond (levels_fit m n) (levels_written m n) 0

-- ---- for a C host: where fewer than 1,024 places are lent (check 22), or the base or a subset of the mapping is out of range, nothing is
-- written and 0 are counted. Only the ranges are asked: of subsets that overlap the later is written last, and a base beside subsets is
-- not used.

abbrev pub host_refuses : Mapping → ℕ → Bool
host_refuses m lent = ltb lent place_count || not (mapping_in_range m)

unfoldable pub host_levels : ℕ → Mapping → List ℕ → List ℕ → List ℕ
host_levels mode m octets levels = cond (host_refuses m (length levels)) levels (levels_drawn mode m octets levels)

unfoldable pub host_written : Mapping → ℕ → ℕ → ℕ
host_written m n lent = cond (host_refuses m lent) 0 (levels_counted m n)
