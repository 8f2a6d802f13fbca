-- Laws about check 23: what a chunk adds to the meters, near their limits and far from them.
use mathlib.Core.Path.{◌≡◌}
use Prim.Native.Nat.{ℕ, ◌+◌}
use mathlib.Core.Bool.{true, false, cond}
use mathlib.Core.List.{List}
use native.Mathlib.Nat.{add-zero}
use lib.Dec.{eqb}
use Rattle.tags.specs.Rows.{points_by}
use Rattle.tags.specs.Kept.{sample_in}
use Rattle.tags.specs.Choice.{refuse}
use Rattle.receiver.specs.Governing.{Configuration}
use Rattle.receiver.specs.Chunk.{Chunk, is_drawing, duration, body, lit_points_for, points_of, lit_points_of}
use Rattle.receiver.specs.Meters.{Sums, sums, over_limit, added_by}
use Rattle.receiver.specs.Checks.{meter_number}
use Rattle.receiver.specs.Record.{configuration_of, Config}
use Rattle.receiver.proofs.ChunkLaws.{drawing-sample}

-- a chunk that draws nothing adds nothing
pub meter-idle : (k : Chunk) (v : Configuration) (s : Sums) → is_drawing k.type v ≡ false → over_limit s ≡ false
    → meter_number k v s ≡ 0
unfolding meter_number added_by points_of lit_points_of
meter-idle k v s d h = rw (d, add-zero s.lit_time, add-zero s.points, add-zero s.lit_points, h)

-- one that draws adds its Duration if a point is lit, its points and its lit points
pub meter-drawing : (k : Chunk) (held : Config) (area : List ℕ) (s : Sums) (p l a : ℕ) → is_drawing k.type (configuration_of held area) ≡ true
    → p ≡ points_by (sample_in held.size held.colours area) (body k)
    → l ≡ lit_points_for k (sample_in held.size held.colours area)
    → a ≡ cond (eqb l 0) 0 (duration k)
    → meter_number k (configuration_of held area) s ≡ refuse (over_limit (sums (s.lit_time + a) (s.points + p) (s.lit_points + l))) 23
unfolding meter_number added_by points_of lit_points_of
meter-drawing k held area s p l a d ep el ea = rw (d, drawing-sample k.type held area d, ea, el, ep)
