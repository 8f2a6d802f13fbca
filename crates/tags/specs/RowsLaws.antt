-- Laws of points and rows that the layer above cites: how many points so many octets can be, and how many of them are lit.
use Rattle.std.specs.Prelude.{Bool, true, false, cond, List, ◌≡◌, refl, ℕ, zero, suc, ◌-◌, ◌≤◌, length}
use Rattle.std.proofs.Common.{ap, ◌∙◌, div-le_self, arith}
use Rattle.samples.specs.Row.{lit_of}
use Rattle.samples.specs.Points.{samples_in, sample_at, lit_in}
use Rattle.tags.specs.Dictionary.{Sample}
use Rattle.samples.specs.PointsLaws.{samples_in-behind, behind-none, lit_points_in-behind, lit_in-first}
use Rattle.tags.specs.Rows.{points_by, lit_points_by, behind_by}

lit_in-le : (roles octets : List ℕ) (n : ℕ) → lit_in roles octets n ≤ n
unfolding lit_in
lit_in-le roles octets zero = omega arith
lit_in-le roles octets (suc n) =
    omega (arith, lit_in-le roles octets n, one (lit_of roles (sample_at roles octets n)))
  where
    one : (b : Bool) → cond b 1 0 ≤ 1
    one true = omega arith
    one false = omega arith

-- ---- no more are lit than there are

-- behind the first n samples no more points are lit than there are in all
pub lit_points-behind-le-points : (s : Sample) (n : ℕ) (octets : List ℕ) → lit_points_by s (behind_by s n octets) ≤ points_by s octets
lit_points-behind-le-points s n octets =
    omega (arith, lit_in-le s.roles (behind_by s n octets) (samples_in s.roles (behind_by s n octets)), samples_in-behind s.roles octets n)

-- and no more points are there than octets
pub points-le-octets : (s : Sample) (octets : List ℕ) → points_by s octets ≤ length octets
points-le-octets s octets = div-le_self (length octets) (length s.roles)

-- ---- the lit points behind the first samples

-- the first sample is of a point with a colour that is not 0
abbrev pub first_lit_by : Sample → List ℕ → Bool
first_lit_by s octets = lit_of s.roles (sample_at s.roles octets 0)

pub lit_points-behind-none : (s : Sample) (octets : List ℕ) → lit_points_by s (behind_by s 0 octets) ≡ lit_points_by s octets
lit_points-behind-none s octets = rw (behind-none s.roles octets) refl

-- all less one where the first is lit
pub lit_points-behind-first : (s : Sample) (octets : List ℕ)
    → lit_points_by s (behind_by s 1 octets) ≡ lit_points_by s octets - cond (first_lit_by s octets) 1 0
lit_points-behind-first s octets =
    lit_points_in-behind s.roles octets 1 ∙ ap (λ (n : ℕ). lit_points_by s octets - n) (lit_in-first s.roles octets)
