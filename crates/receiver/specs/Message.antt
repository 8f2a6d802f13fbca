-- The octets of one message (document 01, "One message"; 003, 2.1 and 2.2). Multi-octet fields are big-endian; bit 0 is the most
-- significant. An octet past the end reads as 0; checks 2 and 5 refuse a message before such a reading counts.
use Rattle.std.specs.Prelude.{ℕ, ◌+◌, ◌-◌, ◌*◌, ◌/◌, ◌%◌, Bool, cond, not, ◌&&◌, List, get_or, take, drop, eqb}

abbrev pub octet : List ℕ → ℕ → ℕ
octet m i = get_or m i 0

-- octets 0-1
abbrev pub total_size : List ℕ → ℕ
total_size m = octet m 0 * 256 + octet m 1

-- octet 2: "top bit 1, then CCLF (configuration present), then six bits of channel ID"
abbrev pub top_bit : List ℕ → ℕ
top_bit m = octet m 2 / 128

abbrev pub cclf : List ℕ → Bool
cclf m = eqb (octet m 2 / 64 % 2) 1

abbrev pub channel_of : List ℕ → ℕ
channel_of m = octet m 2 % 64

-- octet 3
abbrev pub type_of : List ℕ → ℕ
type_of m = octet m 3

-- C-12: a sequel, type 0xC0, has "CCLF as the mark of the last" fragment of its frame
abbrev pub sequel_type : ℕ → Bool
sequel_type t = eqb t 0xC0

abbrev pub is_sequel : List ℕ → Bool
is_sequel m = sequel_type (type_of m)

abbrev pub is_last : List ℕ → Bool
is_last m = is_sequel m && cclf m

-- in every other message it says that a configuration header follows: "A sequel never routes or closes", and its octets stand "from octet 8"
abbrev pub configured : List ℕ → Bool
configured m = not (is_sequel m) && cclf m

-- octets 4-7, in microseconds, only passed on
abbrev pub timestamp_of : List ℕ → ℕ
timestamp_of m = octet m 4 * 16777216 + octet m 5 * 65536 + octet m 6 * 256 + octet m 7

-- ---- the configuration header: octets 8-11 are SCWC, CFL, service ID, service mode; "CFL bits 2-3 are SDM, bit 6 Close, bit 7
-- Routing; other bits are ignored"

abbrev pub routes : List ℕ → Bool
routes m = configured m && eqb (octet m 9 % 2) 1

abbrev pub closes : List ℕ → Bool
closes m = configured m && eqb (octet m 9 / 2 % 2) 1

abbrev pub match_bits : List ℕ → ℕ
match_bits m = octet m 9 / 16 % 4

abbrev pub service_of : List ℕ → ℕ
service_of m = octet m 10

abbrev pub mode_of : List ℕ → ℕ
mode_of m = octet m 11

-- the octets of the configuration words, of which only Routing has any
abbrev pub config_length : List ℕ → ℕ
config_length m = cond (routes m) (octet m 8 * 4) 0

-- "With Routing set, SCWC words follow, then the data section. Without Routing .. the data section starts at octet 12; without CCLF
-- it starts at octet 8."
abbrev pub data_start : List ℕ → ℕ
data_start m = cond (configured m) (12 + config_length m) 8

-- the tags that a message with Routing brings
unfoldable pub tags_of : List ℕ → List ℕ
tags_of m = take (data_start m - 12) (drop 12 m)

-- the data section
unfoldable pub data_of : List ℕ → List ℕ
data_of m = drop (data_start m) m
