-- What the types of src/dimming.rt are in the terms of specs/Dimmer.antt: a subset, what the tags so far say, one tag, and the answer.
use Rattle.std.specs.Prelude.{ℕ, ◌+◌, ◌*◌, Bool, true, false, cond, not, ◌&&◌, ◌||◌, List, [], ◌∷◌, ◌++◌, map, length, get_or, ltb, leb, eqb, ◌≡◌, is_some, unwrap_or, Result, Ok, Err}
use Rattle.tags.specs.Limits.{subset_limit}
use Rattle.tags.specs.Dimmer.{Mapping, DimmerWalk, overlaps_any, base_in_range, count_in_range, pair_at, bad_dimmer_tag}
use Rattle.tags.specs.Layout.{empty_dimmer}
use Rattle.tags.specs.Refusal.{refusal_number}
use Rattle.tags.specs.declared.Dimmer as declared_dimmer
use Rattle.tags.specs.declared.Mapped as declared_mapped
use Rattle.tags.specs.declared.refusal.Refusal.{Refusal}
use Rattle.tags.specs.declared.refusal.Refusal.TheVariants.{BadDimmerTag, Clash}
use Rattle.tags.specs.declared.dimming.Subset.{Subset}
use Rattle.tags.specs.declared.dimming.Tag.{Tag}
use Rattle.tags.specs.declared.dimming.Tag.TheVariants.{Skip, Whole, Part}
use Rattle.tags.specs.declared.dimming.Walk.{Walk}

-- a subset as a mapping has it
abbrev pub subset_number : Subset → ℕ
subset_number s = s.base * 256 + s.count

-- ---- the walk

-- what the tags so far say
abbrev pub mapping_so_far : Walk → Mapping
mapping_so_far w = record { base = unwrap_or w.base 0; subsets = map subset_number w.subsets }

-- a base that is there is not 0, which stands for none
abbrev pub Based : Walk → Type 0
Based w = is_some w.base ≡ not (eqb (unwrap_or w.base 0) 0)

-- at a tag, with what the tags before it say
abbrev pub unread : Mapping → DimmerWalk
unread m = record { refusal = 0; skip = 0; mapping = m }

-- ---- one tag

-- what its operands have to be
abbrev pub tag_in_range : Tag → Bool
tag_in_range Skip = true
tag_in_range (Whole base) = base_in_range base
tag_in_range (Part s) = base_in_range s.base && count_in_range s.base s.count

-- the first of the octets, a tag that check 13 lets pass
abbrev pub tag_at : List ℕ → Tag
tag_at tags =
    cond (eqb (get_or tags 0 0) 0x42)
    (Whole (pair_at tags 1))
    (cond (eqb (get_or tags 0 0) 0x43) (Part (record { base = pair_at tags 1; count = get_or tags 3 0 })) Skip)

abbrev pub tag_read : List ℕ → Result Tag Refusal
tag_read tags = cond (bad_dimmer_tag tags 0) (Err BadDimmerTag) (Ok (tag_at tags))

-- check 14 refuses it, with what the tags before it say
abbrev pub tag_clashes : Tag → Mapping → Bool
tag_clashes Skip m = false
tag_clashes (Whole base) m = not (eqb m.base 0) || ltb 0 (length m.subsets)
tag_clashes (Part s) m = not (eqb m.base 0) || leb subset_limit (length m.subsets) || overlaps_any (subset_number s) m.subsets

abbrev pub clash_if : Bool → Result (Unit {0}) Refusal
clash_if true = Err Clash
clash_if false = Ok tt

-- what the tags say with it
abbrev pub with_tag : Tag → Mapping → Mapping
with_tag Skip m = m
with_tag (Whole base) m = record { base = base; subsets = m.subsets }
with_tag (Part s) m = record { base = m.base; subsets = m.subsets ++ (subset_number s ∷ []) }

-- ---- the answer, as C has it

abbrev pub mapped_in : Result declared_dimmer.Dimmer Refusal → declared_mapped.Mapped
mapped_in (Ok d) = record { number = 0; dimmer = d }
mapped_in (Err r) = record { number = refusal_number r; dimmer = empty_dimmer }
