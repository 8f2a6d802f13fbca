-- Dimmer tags (document 01, "Dimmer tags, modes 4 and 6"; 003, 4.4), checks 13 and 14: at each tag 13, then 14, then the next.
use Rattle.std.specs.Prelude.{ℕ, zero, suc, ◌+◌, ◌-◌, ◌*◌, ◌/◌, ◌%◌, Bool, true, false, cond, not, ◌&&◌, ◌||◌, List, [], ◌∷◌, ◌++◌, length, get_or, ltb, leb, eqb}
use Rattle.tags.specs.Limits.{subset_limit, last_level, level_end, drop_base}
use Rattle.tags.specs.Choice.{refuse, first}

-- What dimmer tags say: `base` is that of a 42, 0 without one; `subsets` are the 43s in order, each as base × 256 + count.
pub record Mapping : Type 0 where
  pub base : ℕ
  pub subsets : List ℕ

abbrev pub no_mapping : Mapping
no_mapping = record { base = 0; subsets = [] }

abbrev pub base_of : ℕ → ℕ
base_of e = e / 256

abbrev pub count_of : ℕ → ℕ
count_of e = e % 256

-- FFFF "drops the octets"
abbrev pub dropped : ℕ → Bool
dropped b = eqb b drop_base

-- "Base is 1 to 512, or FFFF"
abbrev pub base_in_range : ℕ → Bool
base_in_range b = leb 1 b && leb b last_level || dropped b

-- "Count is 1 to 255; base + count is at most 513 unless base is FFFF"
abbrev pub count_in_range : ℕ → ℕ → Bool
count_in_range b c = leb 1 c && (leb (b + c) level_end || dropped b)

-- two mapped ranges share a level; a dropped one is not mapped
abbrev pub overlap : ℕ → ℕ → Bool
overlap e f =
    not (dropped (base_of e)) && not (dropped (base_of f)) && ltb (base_of e) (base_of f + count_of f)
    && ltb (base_of f) (base_of e + count_of e)

unfoldable pub overlaps_any : ℕ → List ℕ → Bool
overlaps_any e [] = false
overlaps_any e (f ∷ fs) = overlap e f || overlaps_any e fs

-- ---- a mapping in range: check 13 lets no other pass

-- each subset's base and count are in range
unfoldable pub all_in_range : List ℕ → Bool
all_in_range [] = true
all_in_range (e ∷ es) = base_in_range (base_of e) && count_in_range (base_of e) (count_of e) && all_in_range es

-- the base is in range, or 0 without a 42, and so is each subset
abbrev pub mapping_in_range : Mapping → Bool
mapping_in_range m = (eqb m.base 0 || base_in_range m.base) && all_in_range m.subsets

-- ---- the state of the walk

-- The walk over the octets: the refusal, 0 so far; how many octets are still to be passed over; the mapping so far.
pub record DimmerWalk : Type 0 where
  pub refusal : ℕ
  pub skip : ℕ
  pub mapping : Mapping

-- the walk with nothing mapped: at its start with 0, and after a refusal with its number
abbrev pub nothing_mapped : ℕ → DimmerWalk
nothing_mapped n = record { refusal = n; skip = 0; mapping = no_mapping }

-- ---- one tag: octet i is the tag, the octets after it are its operands

-- two octets from place i on, big-endian
abbrev pub pair_at : List ℕ → ℕ → ℕ
pair_at tags i = get_or tags i 0 * 256 + get_or tags (i + 1) 0

-- how many octets belong to the tag besides itself: 0n has n, 42 has two, 43 has three. The low nibble of each tag is their number (003,
-- 4.4: the parameter is the "Data octet count").
abbrev pub operands : ℕ → ℕ
operands t = t % 16

-- the subset of a 43 at place i
abbrev pub subset_at : List ℕ → ℕ → ℕ
subset_at tags i = pair_at tags (i + 1) * 256 + get_or tags (i + 3) 0

-- check 13: "A dimmer tag is unknown, out of range or passes the end"
unfoldable pub bad_dimmer_tag : List ℕ → ℕ → Bool
bad_dimmer_tag tags i =
    not (ltb (get_or tags i 0) 16 || eqb (get_or tags i 0) 0x42 || eqb (get_or tags i 0) 0x43)
    || ltb (length tags) (i + 1 + operands (get_or tags i 0))
    || eqb (get_or tags i 0) 0x42 && not (base_in_range (pair_at tags (i + 1)))
    || eqb (get_or tags i 0) 0x43
    && not (base_in_range (pair_at tags (i + 1)) && count_in_range (pair_at tags (i + 1)) (get_or tags (i + 3) 0))

-- check 14: "Dimmer tags mix, overlap, repeat 42, or are the 33rd 43"
unfoldable pub clashing_tag : List ℕ → ℕ → Mapping → Bool
clashing_tag tags i m =
    eqb (get_or tags i 0) 0x42 && (not (eqb m.base 0) || ltb 0 (length m.subsets))
    || eqb (get_or tags i 0) 0x43
    && (not (eqb m.base 0) || leb subset_limit (length m.subsets) || overlaps_any (subset_at tags i) m.subsets)

unfoldable pub dimmer_tag_number : List ℕ → ℕ → Mapping → ℕ
dimmer_tag_number tags i m = first (refuse (bad_dimmer_tag tags i) 13) (refuse (clashing_tag tags i m) 14)

-- what the mapping is with a tag that passes
unfoldable pub mapping_with : List ℕ → ℕ → Mapping → Mapping
mapping_with tags i m =
    record {
      base = cond (eqb (get_or tags i 0) 0x42) (pair_at tags (i + 1)) m.base;
      subsets = cond (eqb (get_or tags i 0) 0x43) (m.subsets ++ (subset_at tags i ∷ [])) m.subsets;
    }

-- ---- the walk

unfoldable pub read_dimmer : List ℕ → ℕ → DimmerWalk → DimmerWalk
read_dimmer tags i s =
    cond (eqb (dimmer_tag_number tags i s.mapping) 0)
    (record { refusal = 0; skip = operands (get_or tags i 0); mapping = mapping_with tags i s.mapping })
    (nothing_mapped (dimmer_tag_number tags i s.mapping))

-- one octet more: a refusal stays, a skipped octet or an operand is passed over
unfoldable pub step_dimmer : List ℕ → ℕ → DimmerWalk → DimmerWalk
step_dimmer tags i s =
    cond (eqb s.refusal 0)
    (cond (eqb s.skip 0)
    (read_dimmer tags i s)
    (record { refusal = 0; skip = s.skip - 1; mapping = s.mapping }))
    s

-- the walk over the first i octets
unfoldable pub dimmed : List ℕ → ℕ → DimmerWalk
dimmed tags zero = nothing_mapped 0
dimmed tags (suc i) = step_dimmer tags i (dimmed tags i)

-- the refusal of dimmer tags, 13 or 14, or 0; and what they say
unfoldable pub dimmer_number : List ℕ → ℕ
dimmer_number tags = (dimmed tags (length tags)).refusal

unfoldable pub dimmer_mapping : List ℕ → Mapping
dimmer_mapping tags = (dimmed tags (length tags)).mapping
