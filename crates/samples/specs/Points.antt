-- The samples of a chunk as rows of the lent slice (document 01, "One row"): rows of one fixed size from its start, the rest
-- unchanged; and how many of the points are lit.
use Rattle.std.specs.Prelude.{ℕ, zero, suc, ◌+◌, ◌*◌, ◌/◌, Bool, cond, List, [], ◌++◌, length, take, drop, leb, ℤ}
use Rattle.samples.specs.Limits.{row_size}
use Rattle.samples.specs.Row.{row_of, lit_of}

-- how many whole samples of `width` octets so many octets hold; none where a sample has no octet (a number divided by 0 is 0 here)
abbrev pub samples_of : ℕ → ℕ → ℕ
samples_of width octets = octets / width

abbrev pub samples_in : List ℕ → List ℕ → ℕ
samples_in roles octets = samples_of (length roles) (length octets)

-- how many points so many samples are, each of them a row: a sample is one point
abbrev pub points_for : ℕ → ℕ
points_for samples = samples

abbrev pub points_in : List ℕ → List ℕ → ℕ
points_in roles octets = points_for (samples_in roles octets)

-- sample i, counted from 0
abbrev pub sample_at : List ℕ → List ℕ → ℕ → List ℕ
sample_at roles octets i = take (length roles) (drop (i * length roles) octets)

-- the rows of the first n samples, one after the other
unfoldable pub rows_of : List ℕ → List ℕ → List ℕ → ℕ → List ℤ
rows_of roles waves octets zero = []
rows_of roles waves octets (suc n) = rows_of roles waves octets n ++ row_of roles waves (sample_at roles octets n)

-- how many points of the first n samples are lit
unfoldable pub lit_in : List ℕ → List ℕ → ℕ → ℕ
lit_in roles octets zero = 0
lit_in roles octets (suc n) = lit_in roles octets n + cond (lit_of roles (sample_at roles octets n)) 1 0

-- the octets behind the first n samples
abbrev pub behind : List ℕ → ℕ → List ℕ → List ℕ
behind roles n octets = drop (n * length roles) octets

-- how many of the points are lit
abbrev pub lit_points_in : List ℕ → List ℕ → ℕ
lit_points_in roles octets = lit_in roles octets (samples_in roles octets)

-- the lent rows after the points were written: theirs from the start, and after them what stood there
abbrev pub drawn_over : List ℕ → List ℕ → List ℕ → List ℤ → List ℤ
drawn_over roles waves octets rows =
    rows_of roles waves octets (samples_in roles octets) ++ drop (points_in roles octets * row_size) rows

-- the lent rows have room for every point
abbrev pub room_for : List ℕ → List ℕ → List ℤ → Bool
room_for roles octets rows = leb (points_in roles octets * row_size) (length rows)
