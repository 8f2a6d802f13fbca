-- Laws of the subsets that two arrays hold, bases and counts (specs/Layout.antt's `subsets_of`), for the loops that read or grow them.
-- They hold of arrays of any one length.
use Prim.Native.Nat.{ℕ, zero, suc, ◌+◌, ◌*◌, ◌<◌, min}
use mathlib.Core.List.{List, [], ◌∷◌}
use mathlib.Core.Path.{◌≡◌, refl, ap}
use native.Mathlib.Nat.{not-suc-le-zero, le_of_suc-le-suc}
use native.Mathlib.Omega.{arith}
use lib.ListN.{length, get_or, take, length-take}
use Rattle.tags.specs.Layout.{subsets_of}

-- the first n bases and counts, as subsets
abbrev pub subsets_to : ℕ → List ℕ → List ℕ → List ℕ
subsets_to n bases counts = subsets_of (take n bases) (take n counts)

length_subsets : (bases counts : List ℕ) → length bases ≡ length counts → length (subsets_of bases counts) ≡ length bases
unfolding subsets_of
length_subsets [] counts e = refl
length_subsets (b ∷ bases) [] e = absurd (omega arith)
length_subsets (b ∷ bases) (c ∷ counts) e = ap suc (length_subsets bases counts (omega arith))

pub length_subsets_to : (n : ℕ) (bases counts : List ℕ) → length bases ≡ length counts
    → length (subsets_to n bases counts) ≡ min n (length bases)
length_subsets_to n bases counts e =
    rw (length_subsets (take n bases) (take n counts) (rw (length-take n bases, length-take n counts, e))) (length-take n bases)

-- a place in the list of subsets is one of both arrays, and what stands there is the base and the count of the subset
pub in_arrays : (n j : ℕ) (bases counts : List ℕ) → j < length (subsets_to n bases counts)
    → (j < length bases) × (j < length counts) × (get_or bases j 0 * 256 + get_or counts j 0 ≡ get_or (subsets_to n bases counts) j 0)
unfolding subsets_of
in_arrays zero j bases counts h = absurd (not-suc-le-zero h)
in_arrays (suc n) j [] counts h = absurd (not-suc-le-zero h)
in_arrays (suc n) j (b ∷ bases) [] h = absurd (not-suc-le-zero h)
in_arrays (suc n) zero (b ∷ bases) (c ∷ counts) h = (omega arith, omega arith, refl)
in_arrays (suc n) (suc j) (b ∷ bases) (c ∷ counts) h =
    let rest = in_arrays n j bases counts (le_of_suc-le-suc h) in
    (omega (arith, rest.0), omega (arith, rest.1), rest.2)
