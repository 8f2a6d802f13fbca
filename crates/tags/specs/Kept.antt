-- What a layer above keeps of a layout or a dimmer record, so that one form serves both: two octets of sizes (the octets of a sample with
-- its colours, or the number of subsets) and one area. How they are read, the tests that the sizes are held to, and what an area holds after
-- a record is put into it. Document 01's "At most 32 octets a sample and 8 colours" and "at most 32 of 43" set the places.
use Rattle.std.specs.Prelude.{ℕ, zero, suc, ◌+◌, ◌*◌, ◌/◌, ◌%◌, min, Bool, ◌&&◌, List, [], ◌∷◌, ◌++◌, length, get_or, take, drop, leb}
use Rattle.tags.specs.Limits.{octet_limit, colour_limit, subset_limit}
use Rattle.tags.specs.Dictionary.{Sample}
use Rattle.tags.specs.Dimmer.{Mapping}
use Rattle.tags.specs.Layout.{subsets_of}
use Rattle.tags.specs.declared.Layout as declared_layout
use Rattle.tags.specs.declared.Dimmer as declared_dimmer

-- ---- places

-- of a sample: a role for each octet, then a word for each colour, then the space modifier
abbrev pub space_place : ℕ
space_place = octet_limit + colour_limit * 2

-- of a mapping: a base for each subset, then a count for each, then the base of a 42
abbrev pub counts_place : ℕ
counts_place = subset_limit * 2

abbrev pub base_place : ℕ
base_place = subset_limit * 3

-- a mapping takes the whole area, 98 octets; a sample takes its first 50
abbrev pub area_size : ℕ
area_size = base_place + 2

-- ---- how an area is read

-- the word at place i, low octet first
abbrev pub word_at : List ℕ → ℕ → ℕ
word_at area i = get_or area i 0 + get_or area (i + 1) 0 * 256

-- n words from place i on
unfoldable pub words_at : List ℕ → ℕ → ℕ → List ℕ
words_at area i zero = []
words_at area i (suc n) = words_at area i n ++ (word_at area (i + n * 2) ∷ [])

-- the sample that an area describes, of that many octets and colours
abbrev pub sample_in : ℕ → ℕ → List ℕ → Sample
sample_in size colours area =
    record {
      roles = take size (take octet_limit area);
      waves = take colours (words_at area octet_limit colour_limit);
      space = word_at area space_place;
    }

-- the mapping that an area holds, of that many subsets
abbrev pub mapping_in : ℕ → List ℕ → Mapping
mapping_in size area =
    record {
      base = word_at area base_place;
      subsets = subsets_of (take size (words_at area 0 subset_limit)) (take size (take subset_limit (drop counts_place area)));
    }

-- ---- sizes

-- the octets of a sample: its size, of which no more than the limit are read
abbrev pub octets_of : ℕ → ℕ
octets_of size = min size octet_limit

-- Both sizes are within what an area holds: as many octets of a sample or subsets, and colours, as there may be. One test for a layout and
-- a mapping, so that a record of many is tested quickly; where a sample may have fewer octets, those above are not read.
unfoldable pub sizes_fit : ℕ → ℕ → Bool
sizes_fit size colours = leb size subset_limit && leb colours colour_limit

-- ---- what an area holds with a record put into it; octets that the record does not use stay

-- words as octets, low octet first
unfoldable pub word_octets : List ℕ → List ℕ
word_octets [] = []
word_octets (w ∷ words) = w % 256 ∷ w / 256 ∷ word_octets words

-- octets put in from place i on
abbrev pub octets_put : List ℕ → ℕ → List ℕ → List ℕ
octets_put area i octets = take i area ++ octets ++ drop (i + length octets) area

unfoldable pub layout_put : declared_layout.Layout → List ℕ → List ℕ
layout_put l area =
    octets_put (octets_put (octets_put area 0 l.roles) octet_limit (word_octets l.waves)) space_place (word_octets (l.space ∷ []))

unfoldable pub dimmer_put : declared_dimmer.Dimmer → List ℕ → List ℕ
dimmer_put d area =
    octets_put (octets_put (octets_put area 0 (word_octets d.bases)) counts_place d.counts) base_place (word_octets (d.base ∷ []))
