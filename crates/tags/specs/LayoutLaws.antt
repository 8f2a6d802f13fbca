-- Laws about the records that hold a dictionary and dimmer tags (specs/Layout.antt), for a layer that keeps them: what such a record
-- means, and that a refusal leaves them all 0.
use Rattle.std.specs.Prelude.{◌≡◌, refl, ℕ, ◌-◌, ◌≤◌, List, [], ◌∷◌, map, length, take, replicate}
use Rattle.std.proofs.Common.{ap, div-add-mod', arith, length-append, take_at, ne_eqb}
use Rattle.std.proofs.lemmas.List.{length-map, length-replicate}
use Rattle.tags.specs.Limits.{octet_limit, colour_limit, subset_limit}
use Rattle.tags.specs.Dictionary.{Sample, host_number, host_sample}
use Rattle.tags.specs.Dimmer.{Mapping, base_of, count_of, dimmer_number, dimmer_mapping}
use Rattle.tags.specs.DimmerLaws.{dimmer_refused_none}
use Rattle.tags.specs.Layout.{sample_of, subsets_of, mapping_of, padded, layout_of, dimmer_of}

-- ---- a list filled up with 0

take-padded : (n k : ℕ) (l : List ℕ) → length l ≡ k → take k (padded n l) ≡ l
unfolding padded
take-padded n k l e = take_at l _ k e

-- an array that is filled up to n has n elements
pub length-padded : (n : ℕ) (l : List ℕ) → length l ≤ n → length (padded n l) ≡ n
unfolding padded
length-padded n l h = rw (length-append l (replicate (n - length l) 0), length-replicate {A = ℕ} (n - length l) 0) (omega arith)

-- ---- each sample has a layout that describes it, and each mapping a record that holds it

pub sample_of-layout_of : (s : Sample) → sample_of (layout_of s) ≡ s
sample_of-layout_of s = rw (take-padded octet_limit _ s.roles refl, take-padded colour_limit _ s.waves refl)

subsets-split : (l : List ℕ) → subsets_of (map base_of l) (map count_of l) ≡ l
unfolding subsets_of
subsets-split [] = refl
subsets-split (e ∷ l) = rw (subsets-split l, div-add-mod' e 256)

pub mapping_of-dimmer_of : (m : Mapping) → mapping_of (dimmer_of m) ≡ m
mapping_of-dimmer_of m =
    let l = m.subsets in
    rw (
      take-padded subset_limit (length l) (map base_of l) (length-map l base_of),
      take-padded subset_limit (length l) (map count_of l) (length-map l count_of),
      subsets-split l,
    )

-- ---- a refusal leaves a layout and a mapping that are all 0, as a C host is told

pub refused-layout_zero : (mode : ℕ) (tags : List ℕ) → (host_number mode tags ≡ 0 → ⊥)
    → layout_of (host_sample mode tags)
    ≡ record { roles = replicate octet_limit 0; waves = replicate colour_limit 0; space = 0; width = 0; colours = 0 }
unfolding host_sample padded
refused-layout_zero mode tags h = rw (ne_eqb (host_number mode tags) 0 h)

pub RefusedDimmer-zero : (tags : List ℕ) → (dimmer_number tags ≡ 0 → ⊥)
    → dimmer_of (dimmer_mapping tags) ≡ record { bases = replicate subset_limit 0; counts = replicate subset_limit 0; base = 0; count = 0 }
unfolding padded
RefusedDimmer-zero tags h = ap dimmer_of (dimmer_refused_none tags h)
