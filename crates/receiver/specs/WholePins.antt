-- What a frame in fragments leaves (document 02, C-12) as tables: the assembly slice, the checks on the whole, the meters, the replies and
-- the rows; what the definitions give for lists of messages, and what the paper says.
use Rattle.std.specs.Prelude.{refl, ℕ, ◌-◌, List, [], ◌∷◌, ◌++◌, map, take, drop, replicate, ℤ, pos, negsuc}
use Rattle.tags.specs.Table.{Row, row, Agrees, span, each}
use Rattle.tags.specs.Rows.{place_of}
use Rattle.tags.specs.Rows.{colour_of, intensity_of, wave_of, slot_of, slots_of, lit_among}
use Rattle.tags.specs.Rows.{rows_of, lit_in}
use Rattle.tags.specs.Tag.{defined_group, is_single, reserved_space, known_tag, slot_for}
use Rattle.tags.specs.Dictionary.{misplaced, repeated, tag_number, role_for, sample_with, allowed_after, read, step, walked, incomplete, end_number, dictionary_number, dictionary_sample}
use Rattle.tags.specs.Dimmer.{overlaps_any, bad_dimmer_tag, clashing_tag, dimmer_tag_number, mapping_with, read_dimmer, step_dimmer, dimmed, dimmer_number, dimmer_mapping}
use Rattle.tags.specs.Levels.{count_sum, levels_fit, mapped_sum, levels_written}
use Rattle.receiver.specs.Message.{tags_of, data_of}
use Rattle.receiver.specs.Governing.{meant}
use Rattle.receiver.specs.Slices.{lent, slices}
use Rattle.receiver.specs.Chunk.{points_of, lit_points_of, levels_of}
use Rattle.receiver.specs.Gathering.{whole_of}
use Rattle.receiver.specs.Meters.{Sums, sums, added_by}
use Rattle.receiver.specs.Checks.{header_number, tags_number, routing_number, route_number, held_elsewhere, holder_number, closed_number, governs, sequel_number, match_number, room_number, draw_number, dim_number, content_number, meter_number, whole_number, in_order, number_of}
use Rattle.receiver.specs.Effects.{reply_of, drawn, assembly_after, slices_after, sums_after, gathering_after}
use Rattle.receiver.specs.LookBack.{lookback, gathering_by, worked_out, judged, replies_by, next_slices}
use Rattle.receiver.specs.PinMessages.{offered, numbers_of, meters_after, fields_after, numbers_with, gathered_after, assembly_left, each_of, routing, plain, unrouted, fragment, sequel, last_sequel, drawing_tags, bringing, two_coloured, frames, dark, alive, close, undivided, opening, middle, ending}

-- ---- what is asked

-- readings with which the frame comes to the limit of a meter, and then one above
limits : List Sums
limits =
    sums 35_999_999_999_933_949 0 0 ∷ sums 35_999_999_999_933_950 0 0
    ∷ sums 0 35_999_999_999_999_998 0 ∷ sums 0 35_999_999_999_999_999 0
    ∷ sums 0 0 35_999_999_999_999_999 ∷ sums 0 0 36_000_000_000_000_000
    ∷ []

-- an assembly slice of 12 octets, all 7, with the first n octets of the frame
filled : ℕ → List ℕ
filled n = take n undivided ++ replicate (12 - n) 7

-- the rows, lent with 7 in each of n numbers, after a message behind others
rows_left : ℕ → List (List ℕ) → List ℕ → List ℤ
rows_left n before m = (next_slices (sums 0 0 0) (map offered before) m (slices (replicate n (pos 7)) [] (replicate 12 7))).rows

z : ℤ
z = pos 0

-- ---- the tables

pub assembly_table : List (Row ℕ)
assembly_table =
    -- "header first, at the start of a lent assembly slice": each fragment behind those before it, the rest unchanged, after the last too
    row (assembly_left (opening 0 ∷ [])) (filled 8)
    ∷ row (assembly_left (opening 0 ∷ middle 0 ∷ [])) (filled 9)
    ∷ row (assembly_left (opening 0 ∷ middle 0 ∷ ending 0 ∷ [])) (filled 10)
    -- the next frame is from the start again
    ∷ row (assembly_left (opening 0 ∷ middle 0 ∷ routing 1 3 1 0 2 drawing_tags (4 ∷ 5 ∷ 6 ∷ 7 ∷ []) ∷ sequel 1 1 (8 ∷ []) ∷ []))
    (4 ∷ 5 ∷ 6 ∷ 7 ∷ 8 ∷ 1 ∷ 9 ∷ 0x7F ∷ 0xFF ∷ 7 ∷ 7 ∷ 7 ∷ [])
    -- one with Close is written too
    ∷ row (assembly_left (routing 0 3 3 0 2 drawing_tags undivided ∷ []) ++ assembly_left (frames 0 ∷ unrouted 0 3 2 undivided ∷ []))
    (filled 10 ++ filled 10)
    -- "dropping writes no octet": by a routing, a close and 19
    ∷ row (each_of (frames 0 ∷ two_coloured ∷ close 0 ∷ fragment 0 200 (replicate 9 0x10) ∷ []) (λ m. assembly_left (opening 0 ∷ m ∷ [])))
    (each (span 0 4) (λ k. filled 8))
    -- by 25, and by 26 at a sequel and at a first fragment; nor is anything written by 24, and by a frame in one message
    ∷ row (each_of (sequel 0 7 (9 ∷ []) ∷ sequel 0 101 (replicate 5 9) ∷ fragment 0 200 (replicate 13 0) ∷ []) (λ m.
    assembly_left (opening 0 ∷ m ∷ [])))
    (each (span 0 3) (λ k. filled 8))
    ∷ row (assembly_left (opening 0 ∷ frames 1 ∷ middle 1 ∷ plain 0 2 (dark 0) ∷ [])) (filled 8)
    -- in mode 0 fragments are "ignored"
    ∷ row (assembly_left (routing 1 3 1 0 0 [] undivided ∷ sequel 1 1 (9 ∷ []) ∷ last_sequel 1 2 (9 ∷ []) ∷ [])) (replicate 12 7)
    -- "refused by those checks, it is then gathered no longer, but its octets stay written"
    ∷ row (assembly_left (opening 0 ∷ last_sequel 0 101 (0xFF ∷ []) ∷ [])) (filled 9)
    ∷ row (assembly_left (opening 0 ∷ last_sequel 0 101 (0xFF ∷ []) ∷ sequel 0 102 (2 ∷ []) ∷ [])) (filled 9)
    ∷ []

pub assembly-pins : Agrees assembly_table
unfolding filled assembly_table place_of colour_of lit_among rows_of lit_in defined_group is_single reserved_space known_tag slot_for misplaced repeated tag_number role_for sample_with allowed_after read step walked incomplete end_number dictionary_number dictionary_sample overlaps_any bad_dimmer_tag clashing_tag dimmer_tag_number mapping_with read_dimmer step_dimmer dimmed dimmer_number dimmer_mapping count_sum levels_fit mapped_sum levels_written tags_of data_of meant header_number tags_number routing_number route_number held_elsewhere holder_number closed_number governs points_of lit_points_of levels_of whole_of sequel_number match_number room_number draw_number dim_number content_number added_by meter_number whole_number in_order number_of reply_of drawn assembly_after slices_after sums_after gathering_after lookback gathering_by worked_out judged replies_by
assembly-pins = refl

pub whole_table : List (Row ℕ)
whole_table =
    -- "After the last fragment the whole is checked by 20 to 23": 20, 22 and 23; accepted or refused, a sequel behind it is 24
    row (each (1 ∷ 2 ∷ 3 ∷ 5 ∷ []) (λ n. numbers_of (opening 0 ∷ last_sequel 0 101 (replicate n 0) ∷ middle 0 ∷ alive 0 ∷ [])))
    (each (20 ∷ 0 ∷ 20 ∷ 0 ∷ []) (λ n. 0 ∷ n ∷ 24 ∷ 0 ∷ []))
    ∷ row (each (0 ∷ 3 ∷ 6 ∷ []) (λ n. numbers_of (bringing 2 3 4 ∷ last_sequel 0 1 (replicate n 0) ∷ sequel 0 2 [] ∷ [])))
    (0 ∷ 0 ∷ 24 ∷ 0 ∷ 20 ∷ 24 ∷ 0 ∷ 0 ∷ 24 ∷ [])
    ∷ row (each (47 ∷ 48 ∷ []) (λ n. numbers_with (sums 0 0 0) (lent n 0 10) (opening 0 ∷ middle 0 ∷ ending 0 ∷ sequel 0 103 [] ∷ [])))
    (0 ∷ 0 ∷ 22 ∷ 24 ∷ 0 ∷ 0 ∷ 0 ∷ 24 ∷ [])
    ∷ row (each_of limits (λ s. numbers_with s (lent 48 0 10) (opening 0 ∷ middle 0 ∷ ending 0 ∷ sequel 0 103 [] ∷ [])))
    (each (0 ∷ 23 ∷ 0 ∷ 23 ∷ 0 ∷ 23 ∷ []) (λ n. 0 ∷ 0 ∷ n ∷ 24 ∷ []))
    ∷ row (gathered_after (opening 0 ∷ last_sequel 0 101 (0xFF ∷ []) ∷ [])) (replicate 5 0)
    -- refused by them it moves no meter
    ∷ row (meters_after (sums 5 6 7) (opening 0 ∷ last_sequel 0 101 (5 ∷ []) ∷ [])) (5 ∷ 6 ∷ 7 ∷ [])
    ∷ row (meters_after (sums 36_000_000_000_000_000 5 6) (opening 0 ∷ middle 0 ∷ ending 0 ∷ [])) (36_000_000_000_000_000 ∷ 5 ∷ 6 ∷ [])
    -- "the meters count each at its accepted last fragment", not before it, and as the same frame in one 0x02, wherever it was divided
    ∷ row (meters_after (sums 5 6 7) (opening 0 ∷ middle 0 ∷ [])) (5 ∷ 6 ∷ 7 ∷ [])
    ∷ row (meters_after (sums 5 6 7) (opening 0 ∷ middle 0 ∷ ending 0 ∷ [])) (0x010208 ∷ 8 ∷ 8 ∷ [])
    ∷ row (meters_after (sums 5 6 7) (frames 0 ∷ plain 0 2 undivided ∷ [])) (0x010208 ∷ 8 ∷ 8 ∷ [])
    ∷ row (meters_after (sums 5 6 7) (opening 0 ∷ middle 0 ∷ plain 0 2 undivided ∷ ending 0 ∷ [])) (0x02040B ∷ 10 ∷ 9 ∷ [])
    ∷ row (each (span 4 7) (λ n.
    meters_after (sums 0 0 0) (routing 0 3 1 0 2 drawing_tags (take n undivided) ∷ last_sequel 0 1 (drop n undivided) ∷ [])))
    (each (span 4 7) (λ n. 0x010203 ∷ 2 ∷ 1 ∷ []))
    -- dropped by 25, refused by 24, or in mode 0, it counts nothing
    ∷ row (meters_after (sums 5 6 7) (opening 0 ∷ ending 0 ∷ ending 0 ∷ [])) (5 ∷ 6 ∷ 7 ∷ [])
    ∷ row (meters_after (sums 5 6 7) (routing 0 3 1 0 0 drawing_tags undivided ∷ last_sequel 0 1 [] ∷ [])) (5 ∷ 6 ∷ 7 ∷ [])
    -- C-11: lit in the first point alone
    ∷ row (meters_after (sums 0 0 0) (opening 0 ∷ last_sequel 0 101 (0 ∷ 0 ∷ []) ∷ [])) (0 ∷ 2 ∷ 0 ∷ [])
    ∷ row (drop 8 (fields_after (opening 0 ∷ last_sequel 0 101 (0 ∷ 0 ∷ []) ∷ []))) (0 ∷ 0 ∷ 0xC0 ∷ 101 ∷ 0 ∷ 2 ∷ 0 ∷ 0 ∷ [])
    -- the replies: its own type and timestamp, the space modifier in force, and at the last the points of the whole; then 24, 25 and 20
    ∷ row (fields_after (routing 5 3 1 0 2 (drawing_tags ++ (0x11 ∷ 0x55 ∷ 0x00 ∷ 0x00 ∷ [])) (take 8 undivided)
    ∷ sequel 5 1 (0xFF ∷ []) ∷ last_sequel 5 2 (2 ∷ []) ∷ []))
    (0 ∷ 5 ∷ 0x03 ∷ 0 ∷ 0x1155 ∷ 0 ∷ 0 ∷ 0 ∷ 0 ∷ 5 ∷ 0xC0 ∷ 1 ∷ 0x1155 ∷ 0 ∷ 0 ∷ 0 ∷ 0 ∷ 5 ∷ 0xC0 ∷ 2 ∷ 0x1155 ∷ 2 ∷ 1 ∷ 0 ∷ [])
    ∷ row (fields_after (frames 0 ∷ last_sequel 0 1 [] ∷ [])) (replicate 8 0 ++ (24 ∷ replicate 7 0))
    ∷ row (fields_after (opening 6 ∷ ending 6 ∷ [])) (0 ∷ 6 ∷ 0x03 ∷ 100 ∷ 0 ∷ 0 ∷ 0 ∷ 0 ∷ 25 ∷ replicate 7 0)
    ∷ row (drop 8 (fields_after (opening 6 ∷ last_sequel 6 101 [] ∷ []))) (20 ∷ replicate 7 0)
    -- octets of the last that look like a configuration header are samples; in mode 0 there are no points
    ∷ row (drop 8 (fields_after (opening 0 ∷ last_sequel 0 101 (0 ∷ 3 ∷ 0 ∷ 0 ∷ 9 ∷ []) ∷ []))) (0 ∷ 0 ∷ 0xC0 ∷ 101 ∷ 0 ∷ 3 ∷ 2 ∷ 0 ∷ [])
    ∷ row (fields_after (routing 6 3 1 0 0 [] undivided ∷ last_sequel 6 102 [] ∷ []))
    (0 ∷ 6 ∷ 0x03 ∷ 0 ∷ 0 ∷ 0 ∷ 0 ∷ 0 ∷ 0 ∷ 6 ∷ 0xC0 ∷ 102 ∷ 0 ∷ 0 ∷ 0 ∷ 0 ∷ [])
    ∷ []

pub whole-pins : Agrees whole_table
unfolding limits whole_table place_of colour_of lit_among rows_of lit_in defined_group is_single reserved_space known_tag slot_for misplaced repeated tag_number role_for sample_with allowed_after read step walked incomplete end_number dictionary_number dictionary_sample overlaps_any bad_dimmer_tag clashing_tag dimmer_tag_number mapping_with read_dimmer step_dimmer dimmed dimmer_number dimmer_mapping count_sum levels_fit mapped_sum levels_written tags_of data_of meant header_number tags_number routing_number route_number held_elsewhere holder_number closed_number governs points_of lit_points_of levels_of whole_of sequel_number match_number room_number draw_number dim_number content_number added_by meter_number whole_number in_order number_of reply_of sums_after gathering_after lookback gathering_by worked_out judged replies_by
whole-pins = refl

pub row_table : List (Row ℤ)
row_table =
    -- "drawn as 0x02": both points are in the rows after the last fragment; the rest stays
    row (rows_left 50 (opening 0 ∷ middle 0 ∷ []) (ending 0))
    (negsuc 32767 ∷ pos 256 ∷ z ∷ z ∷ z ∷ pos 1 ∷ z ∷ z ∷ pos 2304 ∷ z ∷ z ∷ z ∷ z ∷ z ∷ z ∷ z ∷ pos 40832 ∷ z ∷ z ∷ z ∷ z ∷ z ∷ z ∷ z
    ∷ pos 32512 ∷ negsuc 255 ∷ z ∷ z ∷ z ∷ pos 1 ∷ z ∷ z ∷ pos 512 ∷ z ∷ z ∷ z ∷ z ∷ z ∷ z ∷ z ∷ pos 40832 ∷ z ∷ z ∷ z ∷ z ∷ z ∷ z ∷ z
    ∷ pos 7 ∷ pos 7 ∷ [])
    -- and nothing before it, nor where the whole is refused by 20 or 22
    ∷ row (rows_left 50 [] (opening 0) ++ rows_left 50 (opening 0 ∷ []) (middle 0)) (replicate 100 (pos 7))
    ∷ row (rows_left 50 (opening 0 ∷ []) (last_sequel 0 101 (0 ∷ [])) ++ rows_left 47 (opening 0 ∷ middle 0 ∷ []) (ending 0))
    (replicate 97 (pos 7))
    ∷ []

pub row-pins : Agrees row_table
unfolding rows_left z row_table place_of colour_of intensity_of wave_of slot_of slots_of lit_among rows_of lit_in defined_group is_single reserved_space known_tag slot_for misplaced repeated tag_number role_for sample_with allowed_after read step walked incomplete end_number dictionary_number dictionary_sample overlaps_any bad_dimmer_tag clashing_tag dimmer_tag_number mapping_with read_dimmer step_dimmer dimmed dimmer_number dimmer_mapping count_sum levels_fit mapped_sum levels_written tags_of data_of meant header_number tags_number routing_number route_number held_elsewhere holder_number closed_number governs points_of lit_points_of levels_of whole_of sequel_number match_number room_number draw_number dim_number content_number added_by meter_number whole_number in_order number_of reply_of drawn assembly_after slices_after sums_after gathering_after lookback gathering_by worked_out judged replies_by
row-pins = refl
