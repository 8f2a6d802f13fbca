-- Checks 2 to 26 in their order (document 01, "Checks, in order"; document 02, C-12 and C-13). What stands before the message is given: for each
-- channel what governs it, what is gathered of a frame, and the meters by their sums so far; nothing here knows where these come from. The
-- message contract reads them off the receiver and the slice lent, the look-back rule finds them in the list.
use Rattle.std.specs.Prelude.{ℕ, zero, suc, ◌*◌, ◌%◌, Bool, false, cond, not, ◌&&◌, ◌||◌, List, [], ◌∷◌, length, ltb, eqb}
use Rattle.tags.specs.Limits.{row_size, place_count}
use Rattle.tags.specs.Choice.{refuse, first}
use Rattle.tags.specs.Dictionary.{dictionary_number}
use Rattle.tags.specs.Dimmer.{Mapping, dimmer_number}
use Rattle.tags.specs.Rows.{sample_octets, samples_of, points_for}
use Rattle.tags.specs.Levels.{levels_fit}
use Rattle.receiver.specs.Message.{total_size, top_bit, channel_of, type_of, sequel_type, is_sequel, timestamp_of, routes, service_of, mode_of, data_start, tags_of}
use Rattle.receiver.specs.Modes.{graphic_mode, dimmer_mode, void_mode, known_mode, service_fits, exclusive_mode, channel_count}
use Rattle.receiver.specs.Governing.{Configuration, routed_by, meant}
use Rattle.receiver.specs.Slices.{Lent}
use Rattle.receiver.specs.Chunk.{Chunk, chunk_of, void_type, known_type, is_drawing, is_dimming, is_fragment, scm, body}
use Rattle.receiver.specs.Gathering.{Gathering, gathers_on, next_timestamp, end_in, whole_of}
use Rattle.receiver.specs.Meters.{Sums, plus, over_limit, added_by}

-- ---- checks 2 to 5: the length and the header

-- the least and the largest length of a message
abbrev pub least_message : ℕ
least_message = 8

abbrev pub largest_message : ℕ
largest_message = 65_280

-- 2. "The length is below 8, above 65,280, or not Total Size."
abbrev pub wrong_length : List ℕ → Bool
wrong_length m =
    ltb (length m) least_message || ltb largest_message (length m) || not (eqb (length m) (total_size m))

-- 5. "The configuration header, or with Routing its words, pass the end."
abbrev pub passes_end : List ℕ → Bool
passes_end m = ltb (length m) (data_start m)

-- 2 and 3
abbrev pub front_number : List ℕ → ℕ
front_number m = first (refuse (wrong_length m) 2) (refuse (eqb (top_bit m) 0) 3)

unfoldable pub header_number : List ℕ → ℕ
header_number m =
    first (refuse (wrong_length m) 2)
    (first (refuse (eqb (top_bit m) 0) 3)
    (first (refuse (not (known_type (type_of m))) 4)
    (refuse (passes_end m) 5)))

-- ---- checks 6 to 14: with Routing, the mode, the service and the tags

-- 8 to 12 in modes 1 and 2, 13 and 14 in modes 4 and 6; "Mode 0 skips 8 to 14"
unfoldable pub tags_number : ℕ → List ℕ → ℕ
tags_number mode tags = cond (graphic_mode mode) (dictionary_number mode tags) (cond (dimmer_mode mode) (dimmer_number tags) 0)

unfoldable pub routing_number : ℕ → ℕ → List ℕ → ℕ
routing_number mode service tags =
    first (refuse (not (known_mode mode)) 6)
    (first (refuse (not (service_fits mode service)) 7) (tags_number mode tags))

-- "SCWC, SDM, service and mode" count only with Routing
unfoldable pub route_number : List ℕ → ℕ
route_number m = cond (routes m) (routing_number (mode_of m) (service_of m) (tags_of m)) 0

-- ---- checks 15 and 16: the channels

-- open in the mode
abbrev pub holds : ℕ → Configuration → Bool
holds mode v = v.is_open && eqb v.mode mode

-- one of the first n channels, other than c, is open in the mode
unfoldable pub held_elsewhere : (ℕ → Configuration) → ℕ → ℕ → ℕ → Bool
held_elsewhere g mode c zero = false
held_elsewhere g mode c (suc n) = held_elsewhere g mode c n || not (eqb n c) && holds mode (g n)

-- 15. "With Routing to mode 1, another open channel has mode 1."
unfoldable pub holder_number : List ℕ → (ℕ → Configuration) → ℕ
holder_number m g =
    refuse (routes m && (exclusive_mode (mode_of m) && held_elsewhere g (mode_of m) (channel_of m) channel_count)) 15

-- 16. "Without Routing, the channel is closed."
unfoldable pub closed_number : List ℕ → (ℕ → Configuration) → ℕ
closed_number m g = refuse (not (routes m) && not (g (channel_of m)).is_open) 16

-- "a message with Routing is governed by itself"; another by what governs its channel
unfoldable pub governs : List ℕ → (ℕ → Configuration) → Configuration
governs m g = cond (routes m) (meant (routed_by m)) (g (channel_of m))

-- ---- checks 24 and 25: a sequel; "in mode 0 they are accepted, past 24 to 26, and ignored"

-- "after 16, 24 a sequel with no gathering on its channel, 25 a wrong timestamp"
unfoldable pub sequel_number : List ℕ → Configuration → Gathering → ℕ
sequel_number m v w =
    cond (is_sequel m && not (void_mode v.mode))
    (first (refuse (not (gathers_on w (channel_of m))) 24) (refuse (not (eqb (timestamp_of m) (next_timestamp w))) 25))
    0

-- ---- checks 17 to 19: the chunk and what governs it

-- 17. "The type does not go with the mode; 0x00 goes with all."
abbrev pub type_fits : Chunk → Configuration → Bool
type_fits k v = void_type k.type || is_drawing k.type v || is_dimming k.type v || is_fragment k.type v

-- 18. "A Void chunk has data, or another has under 4 octets."
abbrev pub wrong_data : ℕ → ℕ → Bool
wrong_data t octets = cond (void_type t) (ltb 0 octets) (ltb octets 4)

-- 19. "SCM differs from SDM."; a Void chunk has no SCM and skips it
abbrev pub mismatched : Chunk → Configuration → Bool
mismatched k v = not (void_type k.type) && not (eqb (scm k) v.match)

-- "Mode 0 skips .. 17 to 22"; C-12: "checks 5 and 17 to 19 pass it by", a sequel
unfoldable pub match_number : Chunk → Configuration → ℕ
match_number k v =
    cond (void_mode v.mode || sequel_type k.type) 0
    (first (refuse (not (type_fits k v)) 17)
    (first (refuse (wrong_data k.type (length k.octets)) 18) (refuse (mismatched k v) 19)))

-- ---- check 26: the room for a fragment

-- the most octets of a frame in fragments
abbrev pub most_octets : ℕ
most_octets = 1_000_000_000

-- "after 19, 26 an assembly slice too short for the octets so far, or over 1,000,000,000 of them"; those of the fragment among them
unfoldable pub room_number : List ℕ → Configuration → Gathering → ℕ → ℕ
room_number m v w assembly =
    refuse (is_fragment (type_of m) v && (ltb assembly (end_in m w) || ltb most_octets (end_in m w))) 26

-- ---- checks 20 to 22: the samples or levels, and the room for them

-- 20. "Samples are not whole, a wave has under 20, or a frame has exactly 1.", for samples of `width` octets in n octets
abbrev pub wrong_count : ℕ → ℕ → ℕ → Bool
wrong_count t width n =
    not (eqb (n % width) 0) || eqb t 1 && ltb (samples_of width n) 20 || eqb t 2 && eqb (samples_of width n) 1

-- 20 and 22 for a wave or frame: "rows hold under points × 24 numbers"
unfoldable pub draw_number : ℕ → ℕ → ℕ → ℕ → ℕ
draw_number t width n rows =
    first (refuse (wrong_count t width n) 20) (refuse (ltb rows (points_for (samples_of width n) * row_size)) 22)

-- 21 and 22 for dimmer levels: "the levels slice is under 1,024 octets"
unfoldable pub dim_number : Mapping → ℕ → ℕ → ℕ
dim_number mapping count levels = first (refuse (not (levels_fit mapping count)) 21) (refuse (ltb levels place_count) 22)

-- a chunk that passed 17 and is neither a wave or frame nor dimmer levels is Void, in mode 0 or a fragment, and skips these
unfoldable pub content_number : Chunk → Configuration → Lent → ℕ
content_number k v lent =
    cond (is_drawing k.type v)
    (draw_number k.type (sample_octets v.sample) (length (body k)) lent.rows)
    (cond (is_dimming k.type v) (dim_number v.mapping (length (body k)) lent.levels) 0)

-- ---- check 23: "A meter would pass its limit"

unfoldable pub meter_number : Chunk → Configuration → Sums → ℕ
meter_number k v sums = refuse (over_limit (plus sums (added_by k v))) 23

-- ---- checks 20 to 23 on the whole, by what governs it

unfoldable pub whole_number : Chunk → Configuration → Lent → Sums → ℕ
whole_number k v lent sums = first (content_number k v lent) (meter_number k v sums)

-- ---- the order of all of them, written here alone

-- what stands before a message
pub record Standing : Type 0 where
  pub channels : ℕ → Configuration
  pub gathering : Gathering
  pub sums : Sums

-- what governs message m there
abbrev pub governed_in : List ℕ → Standing → Configuration
governed_in m b = governs m b.channels

-- the first of several checks that refuses, or what comes behind them
abbrev pub first_number_of : List ℕ → ℕ → ℕ
first_number_of [] behind = behind
first_number_of (n ∷ ns) behind = first n (first_number_of ns behind)

-- The first check that refuses gives the number. Check 1, on the record, comes before them all (Contract.antt: message_number). Document 01
-- has 2 to 23 in the order of their numbers; C-12 puts 24 and 25 after 16, and 26 after 19; C-13: "For messages with Routing, 17, 18 and 19
-- are now tried before 15", which applies to no other message.
unfoldable pub in_order : List ℕ → ℕ → Standing → ℕ → ℕ
in_order m assembly b whole =
    first_number_of
    -- 2, 3, 4, 5
    (header_number m
    -- 6, 7; at each tag 8 to 11, or 13 and 14; after the last 10 and 12
    ∷ route_number m
    -- 16
    ∷ closed_number m b.channels
    -- 24, 25
    ∷ sequel_number m (governed_in m b) b.gathering
    -- 17, 18, 19
    ∷ match_number (chunk_of m) (governed_in m b)
    -- 15
    ∷ holder_number m b.channels
    -- 26
    ∷ room_number m (governed_in m b) b.gathering assembly
    ∷ [])
    -- 20, 21, 22, 23
    whole

-- the number of message m with the slices lent: 0 where it is accepted
unfoldable pub number_of : List ℕ → Lent → Standing → ℕ
number_of m lent b =
    in_order m lent.assembly b (whole_number (whole_of m (governed_in m b) b.gathering) (governed_in m b) lent b.sums)

-- its number by the checks on the message itself, before the whole is tried
abbrev pub own_number : List ℕ → ℕ → Standing → ℕ
own_number m assembly b = in_order m assembly b 0
