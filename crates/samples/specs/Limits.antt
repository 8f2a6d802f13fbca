-- The limits that document 01 sets to a sample and to its row, one name for each meaning of a number. src/limits.rt has the same.
use Rattle.std.specs.Prelude.{ℕ}

-- "At most 32 octets a sample"
abbrev pub octet_limit : ℕ
octet_limit = 32

-- "and 8 colours"
abbrev pub colour_limit : ℕ
colour_limit = 8

-- "A point is 24 signed 32-bit numbers"
abbrev pub row_size : ℕ
row_size = 24
