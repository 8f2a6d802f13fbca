-- The bench table of document 01, cases a to h, and cases of C-11 and C-16, worked out by the definitions: each row has what the definitions
-- give and what the paper says, and one proof, by computation, says that they are equal.
use Rattle.std.specs.Prelude.{refl, ℕ, ◌+◌, ◌/◌, ◌%◌, Bool, cond, List, [], ◌∷◌, ◌++◌, length, take, drop, replicate, ℤ, pos, negsuc}
use Rattle.tags.specs.Table.{Row, row, Agrees}
use Rattle.tags.specs.Rows.{place_of}
use Rattle.tags.specs.Rows.{colour_of, intensity_of, wave_of, slot_of, slots_of, lit_among, lit_of}
use Rattle.tags.specs.Rows.{rows_of, lit_in}
use Rattle.tags.specs.Tag.{defined_group, is_single, reserved_space, known_tag, slot_for}
use Rattle.tags.specs.Dictionary.{misplaced, repeated, tag_number, role_for, sample_with, allowed_after, read, step, walked, incomplete, end_number, dictionary_number, dictionary_sample}
use Rattle.tags.specs.Dimmer.{overlaps_any, bad_dimmer_tag, clashing_tag, dimmer_tag_number, mapping_with, read_dimmer, step_dimmer, dimmed, dimmer_number, dimmer_mapping}
use Rattle.tags.specs.Levels.{count_sum, levels_fit}
use Rattle.receiver.specs.Message.{tags_of, data_of}
use Rattle.receiver.specs.Governing.{Configuration, closed, meant}
use Rattle.receiver.specs.Slices.{slices, lent}
use Rattle.receiver.specs.Chunk.{points_of, lit_points_of, levels_of}
use Rattle.receiver.specs.Gathering.{no_gathering, whole_of}
use Rattle.receiver.specs.Meters.{Sums, sums, added_by}
use Rattle.receiver.specs.Checks.{header_number, tags_number, routing_number, route_number, held_elsewhere, holder_number, closed_number, governs, sequel_number, match_number, room_number, draw_number, dim_number, content_number, meter_number, whole_number, Standing, in_order, number_of}
use Rattle.receiver.specs.Effects.{reply_of, drawn, assembly_after, slices_after, sums_after, gathering_after}
use Rattle.receiver.specs.LookBack.{offer, lookback, gathering_by, worked_out, judged, history_sums}

-- ---- what the rows of the table are made of

-- a message on channel 5 that routes it to a mode with these tags and brings a chunk of this type
routing_message : ℕ → ℕ → List ℕ → List ℕ → List ℕ
routing_message t mode tags chunk =
    ((12 + length tags + length chunk) / 256 ∷ (12 + length tags + length chunk) % 256 ∷ 0xC5 ∷ t ∷ 0 ∷ 0 ∷ 0 ∷ 0 ∷ length tags / 4 ∷ 0x01 ∷ 0 ∷ mode ∷ [])
    ++ tags
    ++ chunk

-- every channel closed, as at a receiver newly started
abbrev all_closed : ℕ → Configuration
all_closed c = meant closed

-- nothing gathered, and meters of 0
abbrev at_start : Standing
at_start = record { channels = all_closed; gathering = no_gathering; sums = sums 0 0 0 }

-- its number at a receiver newly started, lent 12,000 numbers, 1,024 octets of levels and 65,536 of assembly
first_number : List ℕ → ℤ
first_number m = pos (number_of m (lent 12000 1024 65536) at_start)

-- a chunk of n octets of samples or levels, all 0, after its header
zeros_chunk : ℕ → List ℕ
zeros_chunk n = replicate (4 + n) 0

sums_list : Sums → List ℤ
sums_list s = pos s.lit_time ∷ pos s.points ∷ pos s.lit_points ∷ []

bit : Bool → ℤ
bit b = cond b (pos 1) (pos 0)

-- ---- the papers' octets

-- case a
message_a : List ℕ
message_a =
    0x00 ∷ 0x2E ∷ 0xC5 ∷ 0x02 ∷ 0x00 ∷ 0x00 ∷ 0x00 ∷ 0x00 ∷ 0x04 ∷ 0x11 ∷ 0x01 ∷ 0x02
    ∷ 0x42 ∷ 0x00 ∷ 0x40 ∷ 0x10 ∷ 0x42 ∷ 0x10 ∷ 0x40 ∷ 0x10 ∷ 0x52 ∷ 0x7E ∷ 0x52 ∷ 0x14 ∷ 0x51 ∷ 0xCC ∷ 0x00 ∷ 0x00
    ∷ 0x10 ∷ 0x00 ∷ 0x00 ∷ 0x64
    ∷ 0x80 ∷ 0x00 ∷ 0x00 ∷ 0x01 ∷ 0x00 ∷ 0x00 ∷ 0x00
    ∷ 0x7F ∷ 0xFF ∷ 0xFF ∷ 0xFF ∷ 0x00 ∷ 0x80 ∷ 0x00 ∷ []

-- C-11: case a with its two samples in the other order, so that only the first point is lit
message_start : List ℕ
message_start = take 32 message_a ++ drop 39 message_a ++ take 7 (drop 32 message_a)

-- case b: 4200 4210 527E 4100
tags_b : List ℕ
tags_b = 0x42 ∷ 0x00 ∷ 0x42 ∷ 0x10 ∷ 0x52 ∷ 0x7E ∷ 0x41 ∷ 0x00 ∷ []

-- case c: X and Y, then 5C00 5000
tags_c : List ℕ
tags_c = 0x42 ∷ 0x00 ∷ 0x42 ∷ 0x10 ∷ 0x5C ∷ 0x00 ∷ 0x50 ∷ 0x00 ∷ []

-- case d: X and Y, a colour with precision, a hint
tags_d : List ℕ
tags_d = 0x42 ∷ 0x00 ∷ 0x42 ∷ 0x10 ∷ 0x52 ∷ 0x7E ∷ 0x40 ∷ 0x10 ∷ 0x41 ∷ 0x00 ∷ 0x00 ∷ 0x00 ∷ []

-- case e: 42 01 FE 00
tags_e : List ℕ
tags_e = 0x42 ∷ 0x01 ∷ 0xFE ∷ 0x00 ∷ []

-- case f: 43 00 01 02, 43 00 03 01, then 43 00 02 01
tags_f : List ℕ
tags_f = 0x43 ∷ 0x00 ∷ 0x01 ∷ 0x02 ∷ 0x43 ∷ 0x00 ∷ 0x03 ∷ 0x01 ∷ []

tags_f' : List ℕ
tags_f' = 0x43 ∷ 0x00 ∷ 0x01 ∷ 0x02 ∷ 0x43 ∷ 0x00 ∷ 0x03 ∷ 0x01 ∷ 0x43 ∷ 0x00 ∷ 0x02 ∷ 0x01 ∷ []

-- case g: X, Y, one colour and a Void, three octets a sample
tags_g : List ℕ
tags_g = 0x42 ∷ 0x00 ∷ 0x42 ∷ 0x10 ∷ 0x52 ∷ 0x7E ∷ 0x00 ∷ 0x00 ∷ []

-- C-16: X, Y, one colour and an unknown tag, four octets a sample
tags_newer : List ℕ
tags_newer = 0x42 ∷ 0x00 ∷ 0x42 ∷ 0x10 ∷ 0x52 ∷ 0x7E ∷ 0x42 ∷ 0x30 ∷ []

-- ---- the table

-- the row of numbers that a sample gives by these tags
sample_row : ℕ → List ℕ → List ℕ → List ℤ
sample_row mode tags sample = slots_of (dictionary_sample mode tags).roles (dictionary_sample mode tags).waves sample 24

slot_in : ℕ → ℕ → List ℕ → List ℕ → List ℤ
slot_in s mode tags sample = take 1 (drop s (sample_row mode tags sample))

lit_is : ℕ → List ℕ → List ℕ → ℤ
lit_is mode tags sample = bit (lit_of (dictionary_sample mode tags).roles sample)

z : ℤ
z = pos 0

-- case a's two rows, and the two numbers after them that stay
rows_a : List ℤ
rows_a =
    negsuc 32767 ∷ pos 1 ∷ z ∷ z ∷ z ∷ pos 1 ∷ z ∷ z ∷ z ∷ z ∷ z ∷ z ∷ z ∷ z ∷ z ∷ z ∷ pos 40832 ∷ pos 34048 ∷ pos 29440 ∷ z ∷ z ∷ z ∷ z ∷ z
    ∷ pos 32767 ∷ negsuc 0 ∷ z ∷ z ∷ z ∷ pos 1 ∷ z ∷ z ∷ z ∷ pos 32768 ∷ z ∷ z ∷ z ∷ z ∷ z ∷ z ∷ pos 40832 ∷ pos 34048 ∷ pos 29440 ∷ z ∷ z ∷ z ∷ z ∷ z
    ∷ pos 7 ∷ pos 7 ∷ []

-- the listing's line of a message that is accepted
reply_to : List ℕ → List ℤ
reply_to m =
    let r = reply_of m 0 (governs m all_closed) no_gathering in
    pos r.channel.0 ∷ pos r.chunk_type ∷ pos r.number ∷ pos r.points ∷ pos r.lit_points ∷ []

pub table : List (Row ℤ)
table =
    -- a: accepted; the rows; the listing's line; the meters
    row (first_number message_a ∷ []) (z ∷ [])
    ∷ row (slices_after message_a 0 (governs message_a all_closed) no_gathering (slices (replicate 50 (pos 7)) [] [])).rows rows_a
    ∷ row (reply_to message_a) (pos 5 ∷ pos 2 ∷ z ∷ pos 2 ∷ pos 1 ∷ [])
    ∷ row (sums_list (history_sums (sums 0 0 0) (offer message_a (lent 12000 1024 65536) ∷ []))) (pos 100 ∷ pos 2 ∷ pos 1 ∷ [])
    -- C-11: accepted; the same two rows with their colours; two points and no lit one; no Duration
    ∷ row (first_number message_start ∷ []) (z ∷ [])
    ∷ row (slices_after message_start 0 (governs message_start all_closed) no_gathering (slices (replicate 50 (pos 7)) [] [])).rows (take 24 (drop 24 rows_a) ++ take 24 rows_a ++ drop 48 rows_a)
    ∷ row (reply_to message_start) (pos 5 ∷ pos 2 ∷ z ∷ pos 2 ∷ z ∷ [])
    ∷ row (sums_list (history_sums (sums 0 0 0) (offer message_start (lent 12000 1024 65536) ∷ []))) (z ∷ pos 2 ∷ z ∷ [])
    -- b
    ∷ row (slot_in 8 1 tags_b (0 ∷ 0 ∷ 0xFF ∷ 0x40 ∷ [])) (pos 16320 ∷ [])
    ∷ row (slot_in 8 1 tags_b (0 ∷ 0 ∷ 0xFF ∷ 0xC0 ∷ [])) (pos 1020 ∷ [])
    -- c
    ∷ row (slot_in 16 2 tags_c (0 ∷ 0 ∷ 0x85 ∷ 0 ∷ [])) (pos 34048 ∷ [])
    -- d
    ∷ row (lit_is 2 tags_d (0 ∷ 0 ∷ 0 ∷ 0x3F ∷ 0xC0 ∷ []) ∷ lit_is 2 tags_d (0 ∷ 0 ∷ 0 ∷ 0x40 ∷ 0xC0 ∷ []) ∷ []) (z ∷ pos 1 ∷ [])
    -- e
    ∷ row (first_number (routing_message 0x18 6 tags_e (zeros_chunk 3)) ∷ first_number (routing_message 0x18 6 tags_e (zeros_chunk 4)) ∷ []) (z ∷ pos 21 ∷ [])
    -- f
    ∷ row (first_number (routing_message 0 6 tags_f []) ∷ first_number (routing_message 0 6 tags_f' []) ∷ []) (z ∷ pos 14 ∷ [])
    -- g
    ∷ row (first_number (routing_message 1 1 tags_g (zeros_chunk 57)) ∷ first_number (routing_message 1 1 tags_g (zeros_chunk 60)) ∷ []) (pos 20 ∷ z ∷ [])
    ∷ row (first_number (routing_message 2 2 tags_g (zeros_chunk 0)) ∷ first_number (routing_message 2 2 tags_g (zeros_chunk 3)) ∷ []) (z ∷ pos 20 ∷ [])
    -- h, its last case as C-16 has it: "4230 alone now gives 12"
    ∷ row (pos (dictionary_number 2 (0x40 ∷ 0x10 ∷ [])) ∷ pos (dictionary_number 2 (0x30 ∷ 0x00 ∷ [])) ∷ pos (dictionary_number 2 (0x42 ∷ 0x30 ∷ [])) ∷ [])
    (pos 10 ∷ pos 8 ∷ pos 12 ∷ [])
    -- C-16: "The width, and with it each caller's sample count, includes ignored octets": 8 octets are two samples, 6 are not whole ones
    ∷ row (first_number (routing_message 2 2 tags_newer (zeros_chunk 8)) ∷ first_number (routing_message 2 2 tags_newer (zeros_chunk 6)) ∷ []) (z ∷ pos 20 ∷ [])
    ∷ []

pub bench : Agrees table
unfolding routing_message first_number zeros_chunk sums_list bit message_a message_start tags_b tags_c tags_d tags_e tags_f tags_f' tags_g tags_newer sample_row slot_in lit_is z rows_a reply_to table place_of colour_of intensity_of wave_of slot_of slots_of lit_among rows_of lit_in defined_group is_single reserved_space known_tag slot_for misplaced repeated tag_number role_for sample_with allowed_after read step walked incomplete end_number dictionary_number dictionary_sample overlaps_any bad_dimmer_tag clashing_tag dimmer_tag_number mapping_with read_dimmer step_dimmer dimmed dimmer_number dimmer_mapping count_sum levels_fit tags_of data_of meant header_number tags_number routing_number route_number held_elsewhere holder_number closed_number governs points_of lit_points_of levels_of whole_of sequel_number match_number room_number draw_number dim_number content_number added_by meter_number whole_number in_order number_of reply_of drawn assembly_after slices_after sums_after gathering_after lookback gathering_by worked_out judged
bench = refl
