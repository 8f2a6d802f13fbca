-- The three meters (document 01, "Meters and the look-back rule").
use Rattle.std.specs.Prelude.{ℕ, ◌+◌, ◌≤◌, Bool, cond, ◌||◌, ltb, eqb}
use Rattle.receiver.specs.Governing.{Configuration}
use Rattle.receiver.specs.Chunk.{Chunk, duration, points_of, lit_points_of}

-- lit microseconds, points, lit points
pub record Sums : Type 0 where
  pub lit_time : ℕ
  pub points : ℕ
  pub lit_points : ℕ

abbrev pub sums : ℕ → ℕ → ℕ → Sums
sums lit_time points lit_points = record { lit_time = lit_time; points = points; lit_points = lit_points }

abbrev pub plus : Sums → Sums → Sums
plus s a =
    sums (s.lit_time + a.lit_time) (s.points + a.points) (s.lit_points + a.lit_points)

-- "Each is limited to 36,000,000,000,000,000 (ten million hours)"
abbrev pub limit : ℕ
limit = 36_000_000_000_000_000

-- a meter is above its limit
abbrev pub over_limit : Sums → Bool
over_limit s = ltb limit s.lit_time || ltb limit s.points || ltb limit s.lit_points

-- no meter of the first is above that of the second
abbrev pub NotAbove : Sums → Sums → Type 0
NotAbove s t = (s.lit_time ≤ t.lit_time) × (s.points ≤ t.points) × (s.lit_points ≤ t.lit_points)

-- "An accepted wave or frame in mode 1 or 2 adds its Duration to the first if one of its points is lit, its points to the second, its
-- lit points to the third."; C-11: "a frame lit only there adds no Duration"
unfoldable pub added_by : Chunk → Configuration → Sums
added_by k v =
    sums (cond (eqb (lit_points_of k v) 0) 0 (duration k)) (points_of k v) (lit_points_of k v)
