-- The definitions of samples and rows (crate `samples`) as part of this layer: what the layer above cites of them.
use Rattle.std.specs.Prelude.{ℕ, Bool, List, length, ℤ}
use Rattle.tags.specs.Dictionary.{Sample}
unfoldable pub use Rattle.samples.specs.Roles.{place_of}
unfoldable pub use Rattle.samples.specs.Row.{colour_of, intensity_of, wave_of, slot_of, slots_of, lit_among}
pub use Rattle.samples.specs.Row.{lit_of}
unfoldable pub use Rattle.samples.specs.Points.{rows_of, lit_in}
pub use Rattle.samples.specs.Points.{samples_of, samples_in, points_for, points_in, behind, lit_points_in, sample_at, drawn_over, room_for}

-- ---- by what a dictionary says of a sample, of which the layer above then names no part

-- the octets of a sample
abbrev pub sample_octets : Sample → ℕ
sample_octets s = length s.roles

-- points and lit points in so many octets
abbrev pub points_by : Sample → List ℕ → ℕ
points_by s octets = points_in s.roles octets

abbrev pub lit_points_by : Sample → List ℕ → ℕ
lit_points_by s octets = lit_points_in s.roles octets

-- the octets behind the first n samples
abbrev pub behind_by : Sample → ℕ → List ℕ → List ℕ
behind_by s n octets = behind s.roles n octets

-- the lent rows have room for them, and what the rows are with them drawn
abbrev pub room_by : Sample → List ℕ → List ℤ → Bool
room_by s octets rows = room_for s.roles octets rows

abbrev pub drawn_by : Sample → List ℕ → List ℤ → List ℤ
drawn_by s octets rows = drawn_over s.roles s.waves octets rows
