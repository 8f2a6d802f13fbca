-- How many points can be lit.
use Rattle.std.proofs.Common.{ℕ, ◌≤◌, List, [], length, arith}
use Rattle.samples.specs.Points.{lit_points_in, behind}
use Rattle.tags.specs.Dictionary.{Sample}
use Rattle.tags.specs.RowsLaws.{lit_points-behind-le-points, points-le-octets}

-- no more than there are octets
pub lit_within : (roles : List ℕ) (n : ℕ) (octets : List ℕ) → lit_points_in roles (behind roles n octets) ≤ length octets
lit_within roles n octets =
    let s : Sample = record { roles = roles; waves = []; space = 0 } in
    omega (arith, lit_points-behind-le-points s n octets, points-le-octets s octets)
