-- How the records that hold a dictionary and dimmer tags are read: by what they mean, so that the promises need not know how they
-- are laid out; and which record holds a sample or a mapping.
use Rattle.std.specs.Prelude.{ℕ, ◌+◌, ◌-◌, ◌*◌, ◌≤◌, List, [], ◌∷◌, ◌++◌, map, length, take, replicate}
use Rattle.tags.specs.Limits.{octet_limit, colour_limit, subset_limit}
use Rattle.tags.specs.Dictionary.{Sample, no_sample, dictionary_number, dictionary_sample, host_number, host_sample}
use Rattle.tags.specs.Dimmer.{Mapping, no_mapping, base_of, count_of, dimmer_number, dimmer_mapping}
use Rattle.tags.specs.declared.Layout as declared
use Rattle.tags.specs.declared.Dimmer as declared_dimmer
use Rattle.tags.specs.declared.Checked as declared_checked
use Rattle.tags.specs.declared.Mapped as declared_mapped

-- ---- what a record means

-- the sample that a layout describes
abbrev pub sample_of : declared.Layout → Sample
sample_of l = record { roles = take l.width l.roles; waves = take l.colours l.waves; space = l.space }

-- subsets from their bases and counts, each as base × 256 + count
unfoldable pub subsets_of : List ℕ → List ℕ → List ℕ
subsets_of [] counts = []
subsets_of (b ∷ bases) [] = []
subsets_of (b ∷ bases) (c ∷ counts) = (b * 256 + c) ∷ subsets_of bases counts

-- the mapping that a dimmer record holds
abbrev pub mapping_of : declared_dimmer.Dimmer → Mapping
mapping_of d = record { base = d.base; subsets = subsets_of (take d.count d.bases) (take d.count d.counts) }

-- ---- the record that the checks of tags leave: as document 01 has each array's limit, with 0 after what is used

-- a list filled up with 0 to n elements
unfoldable pub padded : ℕ → List ℕ → List ℕ
padded n l = l ++ replicate (n - length l) 0

-- the layout of a sample
abbrev pub layout_of : Sample → declared.Layout
layout_of s =
    record {
      roles = padded octet_limit s.roles;
      waves = padded colour_limit s.waves;
      space = s.space;
      width = length s.roles;
      colours = length s.waves;
    }

-- the dimmer record of a mapping
abbrev pub dimmer_of : Mapping → declared_dimmer.Dimmer
dimmer_of m =
    record {
      bases = padded subset_limit (map base_of m.subsets);
      counts = padded subset_limit (map count_of m.subsets);
      base = m.base;
      count = length m.subsets;
    }

-- a layout and a mapping that say nothing
abbrev pub empty_layout : declared.Layout
empty_layout = layout_of no_sample

abbrev pub empty_dimmer : declared_dimmer.Dimmer
empty_dimmer = dimmer_of no_mapping

-- what the checks of tags answer, whole; the dictionary check also as a C host is answered
abbrev pub dictionary_checked : ℕ → List ℕ → declared_checked.Checked
dictionary_checked mode tags = record { number = dictionary_number mode tags; layout = layout_of (dictionary_sample mode tags) }

abbrev pub host_checked : ℕ → List ℕ → declared_checked.Checked
host_checked mode tags = record { number = host_number mode tags; layout = layout_of (host_sample mode tags) }

abbrev pub dimmer_mapped : List ℕ → declared_mapped.Mapped
dimmer_mapped tags = record { number = dimmer_number tags; dimmer = dimmer_of (dimmer_mapping tags) }

-- the count of a dimmer record is within its arrays
abbrev pub DimmerWithin : declared_dimmer.Dimmer → Type 0
DimmerWithin d = d.count ≤ subset_limit
