-- The limits that document 01 sets to tags and to what they say, one name for each meaning of a number. src/limits.rt has the same.
use Rattle.std.specs.Prelude.{ℕ}
-- "At most 32 octets a sample and 8 colours", and 24 numbers a row: the limits of the crate `samples`
pub use Rattle.samples.specs.Limits.{octet_limit, colour_limit, row_size}

-- "at most 32 of 43"
abbrev pub subset_limit : ℕ
subset_limit = 32

-- "Base is 1 to 512": a universe has so many levels
abbrev pub last_level : ℕ
last_level = 512

-- "base + count is at most 513": what follows the last level
abbrev pub level_end : ℕ
level_end = 513

-- "FFFF, which drops the octets"
abbrev pub drop_base : ℕ
drop_base = 0xFFFF

-- check 22: the levels of both modes are 1,024 places
abbrev pub place_count : ℕ
place_count = 1024

-- "5 for odd lengths or above 1,020": the tag octets of a C host, as many as 255 configuration words hold
abbrev pub tag_octet_limit : ℕ
tag_octet_limit = 1020
