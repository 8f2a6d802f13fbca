-- The numbers of document 01's "One message", "Chunks", "Meters", "Checks, in order" and "Calls and layers" as tables: what the definitions
-- give, and what the paper says. A definition and its code that were changed alike are refused here, where a row tells them apart.
use Rattle.std.specs.Prelude.{◌≡◌, refl, ℕ, ◌+◌, ◌*◌, List, [], ◌∷◌, ◌++◌, map, length, get_or, replicate}
use Rattle.tags.specs.Table.{Row, row, Agrees, span, each, refused_by, not_refused_by}
use Rattle.tags.specs.Rows.{place_of}
use Rattle.tags.specs.Rows.{colour_of, lit_among}
use Rattle.tags.specs.Rows.{rows_of, lit_in}
use Rattle.tags.specs.Tag.{defined_group, is_single, reserved_space, known_tag, slot_for}
use Rattle.tags.specs.Dictionary.{misplaced, repeated, tag_number, role_for, sample_with, allowed_after, read, step, walked, incomplete, end_number, dictionary_number, dictionary_sample}
use Rattle.tags.specs.Dimmer.{overlaps_any, bad_dimmer_tag, clashing_tag, dimmer_tag_number, mapping_with, read_dimmer, step_dimmer, dimmed, dimmer_number, dimmer_mapping}
use Rattle.tags.specs.Levels.{count_sum, levels_fit, mapped_sum, levels_written}
use Rattle.receiver.specs.Message.{channel_of, timestamp_of, routes, closes, match_bits, data_start, tags_of, data_of}
use Rattle.receiver.specs.Governing.{meant}
use Rattle.receiver.specs.Slices.{slices}
use Rattle.receiver.specs.Chunk.{points_of, lit_points_of, levels_of}
use Rattle.receiver.specs.Gathering.{whole_of}
use Rattle.receiver.specs.Meters.{sums, added_by}
use Rattle.receiver.specs.Checks.{header_number, tags_number, routing_number, route_number, held_elsewhere, holder_number, closed_number, governs, sequel_number, match_number, room_number, draw_number, dim_number, content_number, meter_number, whole_number, in_order, number_of}
use Rattle.receiver.specs.Effects.{reply_of, sums_after, gathering_after}
use Rattle.receiver.specs.LookBack.{lookback, gathering_by, worked_out, judged, replies_by}
use Rattle.receiver.specs.Section.{section_number, section_start, data_section}
use Rattle.receiver.specs.Modes.{channel_count}
use Rattle.receiver.specs.Record.{area_place, record_size, configuration_of, consistent_at, consistent_up_to, consistent}
use Rattle.receiver.specs.Contract.{start_number, message_number}
use Rattle.tags.specs.Kept.{sizes_fit}
use Rattle.receiver.specs.Steps.{fresh, fresh_channels}
use Rattle.receiver.specs.PinMessages.{number_at, number_for, numbers_of, meters_after, replies_to, octets, message, routing, plain, drawing_tags, tags_for, type_for, bringing, two_coloured, first_lit, flagged, bit}

-- ---- the tables

pub message_table : List (Row ℕ)
message_table =
    -- 2. "The length is below 8, above 65,280, or not Total Size."
    row (map (λ n. number_for (octets n n)) (span 2 10)) (replicate 6 2 ++ replicate 4 4)
    ∷ row (map (λ n. number_for (octets n n)) (65280 ∷ 65281 ∷ [])) (4 ∷ 2 ∷ [])
    ∷ row (map (λ t. number_for (octets 20 t)) (0 ∷ 19 ∷ 20 ∷ 21 ∷ 276 ∷ [])) (2 ∷ 2 ∷ 4 ∷ 2 ∷ 2 ∷ [])
    -- 3. "The top bit of octet 2 is 0."
    ∷ row (not_refused_by (3 ∷ []) (λ o. number_for (message o 0x80 [])) (span 0 256)) (span 128 128)
    -- 4. "The type is not 0x00, 0x01, 0x02 or 0x18."; C-12, of 0x03 and 0xC0: "Check 4 lets both types in"
    ∷ row (not_refused_by (4 ∷ []) (λ t. number_for (message 0x80 t [])) (span 0 256)) (0x00 ∷ 0x01 ∷ 0x02 ∷ 0x03 ∷ 0x18 ∷ 0xC0 ∷ [])
    -- "six bits of channel ID"; the timestamp; "CFL bits 2-3 are SDM, bit 6 Close, bit 7 Routing"
    ∷ row (map (λ o. channel_of (0 ∷ 0 ∷ o ∷ [])) (span 0 256)) (span 0 64 ++ span 0 64 ++ span 0 64 ++ span 0 64)
    ∷ row (timestamp_of (0 ∷ 0 ∷ 0 ∷ 0 ∷ 0x01 ∷ 0x02 ∷ 0x03 ∷ 0x04 ∷ []) ∷ []) (0x01020304 ∷ [])
    ∷ row (map (λ f. match_bits (flagged f)) (span 0 256)) (each (span 0 4) (λ k. replicate 16 0 ++ replicate 16 1 ++ replicate 16 2 ++ replicate 16 3))
    ∷ row (map (λ f. bit (closes (flagged f))) (span 0 256)) (each (span 0 64) (λ k. 0 ∷ 0 ∷ 1 ∷ 1 ∷ []))
    ∷ row (map (λ f. bit (routes (flagged f))) (span 0 256)) (each (span 0 128) (λ k. 0 ∷ 1 ∷ []))
    -- "CCLF (configuration present)": without it octet 9 is no CFL
    ∷ row (each (0x80 ∷ 0xBF ∷ 0xC0 ∷ 0xFF ∷ []) (λ o. let m = 0 ∷ 0 ∷ o ∷ 0 ∷ 0 ∷ 0 ∷ 0 ∷ 0 ∷ 5 ∷ 0xFF ∷ [] in bit (routes m) ∷ bit (closes m) ∷ []))
    (0 ∷ 0 ∷ 0 ∷ 0 ∷ 1 ∷ 1 ∷ 1 ∷ 1 ∷ [])
    -- the data section starts at octet 8 without CCLF, at 12 without Routing, at 12 + 4 × SCWC with it
    ∷ row (map (λ f. data_start (flagged f)) (span 0 256)) (each (span 0 128) (λ k. 12 ∷ 32 ∷ []))
    ∷ row (map (λ k. data_start (0 ∷ 0 ∷ 0xC0 ∷ 0 ∷ 0 ∷ 0 ∷ 0 ∷ 0 ∷ k ∷ 1 ∷ [])) (span 0 256)) (map (λ k. 12 + 4 * k) (span 0 256))
    ∷ row (map (λ o. data_start (0 ∷ 0 ∷ o ∷ 0 ∷ 0 ∷ 0 ∷ 0 ∷ 0 ∷ 5 ∷ 1 ∷ [])) (0x80 ∷ 0xBF ∷ 0xC0 ∷ 0xFF ∷ []))
    (8 ∷ 8 ∷ 32 ∷ 32 ∷ [])
    -- 5. "The configuration header, or with Routing its words, pass the end.": after it 16, of a closed channel, or 0
    ∷ row (map (λ n. number_for (message 0xC0 0 (replicate n 0))) (span 0 6)) (5 ∷ 5 ∷ 5 ∷ 5 ∷ 16 ∷ 16 ∷ [])
    ∷ row (map (λ n. number_for (message 0xC0 0 ((1 ∷ 1 ∷ 0 ∷ 0 ∷ []) ++ replicate n 0))) (span 0 6)) (5 ∷ 5 ∷ 5 ∷ 5 ∷ 0 ∷ 0 ∷ [])
    -- "the empty part if 2, 3 or 5 applies", and not if 4 does
    ∷ row (map (λ m. section_start m) (octets 20 20 ∷ octets 20 21 ∷ message 0x00 0 [] ∷ message 0xC0 0 [] ∷ []))
    (8 ∷ 0 ∷ 0 ∷ 0 ∷ [])
    ∷ row (map (λ m. length (data_section m)) (octets 20 20 ∷ octets 20 21 ∷ message 0x00 0 (7 ∷ []) ∷ message 0xC0 0 (7 ∷ []) ∷ []))
    (12 ∷ 0 ∷ 0 ∷ 0 ∷ [])
    -- 6. "the mode is not 0, 1, 2, 4 or 6"
    ∷ row (not_refused_by (6 ∷ []) (λ mode. number_for (routing 0 0 1 0 mode [] [])) (span 0 256)) (0 ∷ 1 ∷ 2 ∷ 4 ∷ 6 ∷ [])
    -- 7. "1 is the laser (modes 1, 2, 4), 2 is DMX (mode 6), 0 is the default for the mode. Mode 0 (Void) goes with 0, 1 or 2"
    ∷ row (not_refused_by (7 ∷ []) (λ service. number_for (routing 0 0 1 service 0 [] [])) (span 0 256)) (0 ∷ 1 ∷ 2 ∷ [])
    ∷ row (each (1 ∷ 2 ∷ 4 ∷ 6 ∷ []) (λ mode. not_refused_by (7 ∷ []) (λ service. number_for (routing 0 0 1 service mode [] [])) (span 0 256)))
    (0 ∷ 1 ∷ 0 ∷ 1 ∷ 0 ∷ 1 ∷ 0 ∷ 2 ∷ [])
    ∷ []

pub message-pins : Agrees message_table
unfolding message_table place_of colour_of lit_among rows_of lit_in defined_group is_single reserved_space known_tag slot_for misplaced repeated tag_number role_for sample_with allowed_after read step walked incomplete end_number dictionary_number dictionary_sample overlaps_any bad_dimmer_tag clashing_tag dimmer_tag_number mapping_with read_dimmer step_dimmer dimmed dimmer_number dimmer_mapping count_sum levels_fit tags_of data_of meant header_number tags_number routing_number route_number held_elsewhere holder_number closed_number governs points_of lit_points_of levels_of whole_of sequel_number match_number room_number draw_number dim_number content_number added_by meter_number whole_number in_order number_of section_number section_start data_section
message-pins = refl

pub chunk_table : List (Row ℕ)
chunk_table =
    -- "Mode 0 skips 8 to 14 and 17 to 22", whatever its words and chunks
    row (map (λ t. number_for (routing 0 t 1 0 0 (replicate 8 0x30) (0xFF ∷ []))) (0x00 ∷ 0x01 ∷ 0x02 ∷ 0x03 ∷ 0x18 ∷ [])) (replicate 5 0)
    -- 15. "With Routing to mode 1, another open channel has mode 1.", of 64 channels; other modes may be had at once
    ∷ row (map (λ c. get_or (numbers_of (routing 0 0 1 0 1 drawing_tags [] ∷ routing c 0 1 0 1 drawing_tags [] ∷ [])) 1 0) (span 0 64)) (0 ∷ replicate 63 15)
    ∷ row (map (λ c. get_or (numbers_of (routing 63 0 1 0 1 drawing_tags [] ∷ routing c 0 1 0 1 drawing_tags [] ∷ [])) 1 0) (span 0 64)) (replicate 63 15 ++ (0 ∷ []))
    ∷ row (each (0 ∷ 2 ∷ 4 ∷ 6 ∷ []) (λ mode. numbers_of (routing 0 0 1 0 mode (tags_for mode) [] ∷ routing 1 0 1 0 mode (tags_for mode) [] ∷ [])))
    (replicate 8 0)
    -- 16. "Without Routing, the channel is closed."
    ∷ row (map (λ c. number_for (message (0x80 + c) 0 [])) (span 0 64)) (replicate 64 16)
    -- 17. "The type does not go with the mode; 0x00 goes with all.": 0x01 mode 1, 0x02 mode 2, 0x18 modes 4 and 6; C-12: 0x03 mode 2
    ∷ row (each (1 ∷ 2 ∷ 4 ∷ 6 ∷ []) (λ mode. not_refused_by (17 ∷ []) (λ t. number_for (bringing mode t 0)) (0x00 ∷ 0x01 ∷ 0x02 ∷ 0x03 ∷ 0x18 ∷ [])))
    (0x00 ∷ 0x01 ∷ 0x00 ∷ 0x02 ∷ 0x03 ∷ 0x00 ∷ 0x18 ∷ 0x00 ∷ 0x18 ∷ [])
    -- 18. "A Void chunk has data, or another has under 4 octets."
    ∷ row (refused_by (18 ∷ []) (λ n. number_for (bringing 1 0 n)) (span 0 8)) (span 1 7)
    ∷ row (refused_by (18 ∷ []) (λ n. number_for (bringing 1 1 n)) (span 0 8)) (0 ∷ 1 ∷ 2 ∷ 3 ∷ [])
    ∷ row (refused_by (18 ∷ []) (λ n. number_for (bringing 2 2 n)) (span 0 8)) (0 ∷ 1 ∷ 2 ∷ 3 ∷ [])
    ∷ row (refused_by (18 ∷ []) (λ n. number_for (bringing 6 0x18 n)) (span 0 8)) (0 ∷ 1 ∷ 2 ∷ 3 ∷ [])
    -- 19. "SCM differs from SDM.": bits 2-3 of the flags octet, "the rest ignored"
    ∷ row (each (1 ∷ 2 ∷ 4 ∷ 6 ∷ []) (λ mode. each (0x01 ∷ 0x11 ∷ 0x21 ∷ 0x31 ∷ []) (λ cfl.
    not_refused_by (19 ∷ []) (λ flags. number_for (routing 0 (type_for mode) cfl 0 mode (tags_for mode) (flags ∷ 9 ∷ 9 ∷ 9 ∷ []))) (0x00 ∷ 0x10 ∷ 0x20 ∷ 0x30 ∷ 0xCF ∷ []))))
    (each (span 0 4) (λ k. 0x00 ∷ 0xCF ∷ 0x10 ∷ 0x20 ∷ 0x30 ∷ []))
    -- 20. "Samples are not whole, a wave has under 20, or a frame has exactly 1."
    ∷ row (refused_by (20 ∷ []) (λ n. number_for (bringing 1 1 (4 + 3 * n))) (span 0 30)) (span 0 20)
    ∷ row (refused_by (20 ∷ []) (λ n. number_for (bringing 2 2 (4 + 3 * n))) (span 0 30)) (1 ∷ [])
    ∷ row (refused_by (20 ∷ []) (λ n. number_for (bringing 2 2 (4 + n))) (span 60 7)) (61 ∷ 62 ∷ 64 ∷ 65 ∷ [])
    -- 21. "base + levels passes 513", of base 1
    ∷ row (map (λ n. number_for (bringing 4 0x18 (4 + n))) (0 ∷ 512 ∷ 513 ∷ [])) (0 ∷ 0 ∷ 21 ∷ [])
    -- 22. "For a wave or frame, rows hold under points × 24 numbers; for dimmer levels, the levels slice is under 1,024 octets."
    ∷ row (map (λ lent. number_at (sums 0 0 0) lent 0 (bringing 1 1 64)) (0 ∷ 479 ∷ 480 ∷ 481 ∷ [])) (22 ∷ 22 ∷ 0 ∷ 0 ∷ [])
    ∷ row (map (λ lent. number_at (sums 0 0 0) lent 0 (bringing 2 2 10)) (0 ∷ 47 ∷ 48 ∷ [])) (22 ∷ 22 ∷ 0 ∷ [])
    ∷ row (number_at (sums 0 0 0) 0 0 (bringing 2 2 4) ∷ []) (0 ∷ [])
    ∷ row (map (λ lent. number_at (sums 0 0 0) 0 lent (bringing 6 0x18 5)) (0 ∷ 1023 ∷ 1024 ∷ [])) (22 ∷ 22 ∷ 0 ∷ [])
    -- the reply: points, lit points (C-11: of a frame all but the first), levels written, the word 11pp
    ∷ row (replies_to two_coloured ++ replies_to (bringing 2 2 10) ++ replies_to (bringing 4 0x18 9))
    (2 ∷ 1 ∷ 0 ∷ 0 ∷ 2 ∷ 0 ∷ 0 ∷ 0 ∷ 0 ∷ 0 ∷ 5 ∷ 0 ∷ [])
    ∷ row (replies_to (routing 0 0 1 0 2 (drawing_tags ++ (0x11 ∷ 0x55 ∷ 0x00 ∷ 0x00 ∷ [])) [])) (0 ∷ 0 ∷ 0 ∷ 0x1155 ∷ [])
    ∷ []

pub chunk-pins : Agrees chunk_table
unfolding chunk_table place_of colour_of lit_among rows_of lit_in defined_group is_single reserved_space known_tag slot_for misplaced repeated tag_number role_for sample_with allowed_after read step walked incomplete end_number dictionary_number dictionary_sample overlaps_any bad_dimmer_tag clashing_tag dimmer_tag_number mapping_with read_dimmer step_dimmer dimmed dimmer_number dimmer_mapping count_sum levels_fit mapped_sum levels_written tags_of data_of meant header_number tags_number routing_number route_number held_elsewhere holder_number closed_number governs points_of lit_points_of levels_of whole_of sequel_number match_number room_number draw_number dim_number content_number added_by meter_number whole_number in_order number_of reply_of sums_after gathering_after lookback gathering_by worked_out judged replies_by
chunk-pins = refl

pub meter_table : List (Row ℕ)
meter_table =
    -- "adds its Duration to the first if one of its points is lit, its points to the second, its lit points to the third"
    row (meters_after (sums 0 0 0) (two_coloured ∷ [])) (0x010203 ∷ 2 ∷ 1 ∷ [])
    ∷ row (meters_after (sums 5 6 7) (bringing 2 2 10 ∷ bringing 1 1 64 ∷ [])) (5 ∷ 28 ∷ 7 ∷ [])
    -- a wave lit in its last point; dimmer levels, and a wave in mode 0, add nothing
    ∷ row (meters_after (sums 0 0 0) (routing 0 1 1 0 1 drawing_tags ((0 ∷ 1 ∷ 2 ∷ 3 ∷ []) ++ replicate 59 0 ++ (9 ∷ [])) ∷ [])) (0x010203 ∷ 20 ∷ 1 ∷ [])
    ∷ row (meters_after (sums 0 0 0) (routing 0 0x18 1 0 6 [] (replicate 9 9) ∷ routing 1 1 1 0 0 drawing_tags (replicate 64 9) ∷ [])) (0 ∷ 0 ∷ 0 ∷ [])
    -- C-11: lit in the first point alone, a wave adds its Duration and a lit point, and a frame neither
    ∷ row (each (1 ∷ 2 ∷ []) (λ t. meters_after (sums 0 0 0) (first_lit t ∷ []))) (0x010203 ∷ 20 ∷ 1 ∷ 0 ∷ 20 ∷ 0 ∷ [])
    -- "Each is limited to 36,000,000,000,000,000 (ten million hours)": start with a reading at the limit, and above it
    ∷ row (meters_after (sums 36_000_000_000_000_000 36_000_000_000_000_000 36_000_000_000_000_000) [])
    (36_000_000_000_000_000 ∷ 36_000_000_000_000_000 ∷ 36_000_000_000_000_000 ∷ [])
    ∷ row (meters_after (sums 36_000_000_000_000_001 1 1) []) (0 ∷ 0 ∷ 0 ∷ [])
    ∷ row (meters_after (sums 1 36_000_000_000_000_001 1) []) (0 ∷ 0 ∷ 0 ∷ [])
    ∷ row (meters_after (sums 1 1 36_000_000_000_000_001) []) (0 ∷ 0 ∷ 0 ∷ [])
    -- start: "given a reading above it, replies 23"
    ∷ row (each (36_000_000_000_000_000 ∷ 36_000_000_000_000_001 ∷ []) (λ n. start_number (sums n 0 0) ∷ start_number (sums 0 n 0) ∷ start_number (sums 0 0 n) ∷ []))
    (0 ∷ 0 ∷ 0 ∷ 23 ∷ 23 ∷ 23 ∷ [])
    -- 1. a record with a meter above its limit breaks the consistency rule, and one at the limit does not: its channels are closed
    ∷ row (map (λ n. message_number (fresh (sums 0 n 0)) (plain 0 0 []) (slices [] [] [])) (36_000_000_000_000_000 ∷ 36_000_000_000_000_001 ∷ []))
    (16 ∷ 1 ∷ [])
    -- 23. "A meter would pass its limit": each of the three comes to the limit, and then one above
    ∷ row (map (λ lit. number_at (sums lit 0 0) 12000 1024 two_coloured) (35_999_999_999_933_949 ∷ 35_999_999_999_933_950 ∷ [])) (0 ∷ 23 ∷ [])
    ∷ row (map (λ points. number_at (sums 0 points 0) 12000 1024 two_coloured) (35_999_999_999_999_998 ∷ 35_999_999_999_999_999 ∷ [])) (0 ∷ 23 ∷ [])
    ∷ row (map (λ lit. number_at (sums 0 0 lit) 12000 1024 two_coloured) (35_999_999_999_999_999 ∷ 36_000_000_000_000_000 ∷ [])) (0 ∷ 23 ∷ [])
    -- a frame of no points, whatever its Duration, passes none
    ∷ row (number_at (sums 36_000_000_000_000_000 36_000_000_000_000_000 36_000_000_000_000_000) 12000 1024 (routing 0 2 1 0 2 drawing_tags (0 ∷ 1 ∷ 2 ∷ 3 ∷ [])) ∷ []) (0 ∷ [])
    -- and with a meter of lit time or lit points at its limit, a wave lit in its first point alone passes it, such a frame does not
    ∷ row (each (1 ∷ 2 ∷ []) (λ t. number_at (sums 36_000_000_000_000_000 0 0) 12000 1024 (first_lit t) ∷ number_at (sums 0 0 36_000_000_000_000_000) 12000 1024 (first_lit t) ∷ []))
    (23 ∷ 23 ∷ 0 ∷ 0 ∷ [])
    ∷ []

pub meter-pins : Agrees meter_table
unfolding meter_table place_of colour_of lit_among rows_of lit_in defined_group is_single reserved_space known_tag slot_for misplaced repeated tag_number role_for sample_with allowed_after read step walked incomplete end_number dictionary_number dictionary_sample overlaps_any bad_dimmer_tag clashing_tag dimmer_tag_number mapping_with read_dimmer step_dimmer dimmed dimmer_number dimmer_mapping count_sum levels_fit tags_of data_of meant header_number tags_number routing_number route_number held_elsewhere holder_number closed_number governs points_of lit_points_of levels_of whole_of sequel_number match_number room_number draw_number dim_number content_number added_by meter_number whole_number in_order number_of sums_after gathering_after lookback gathering_by worked_out judged configuration_of consistent_at consistent_up_to consistent fresh_channels sizes_fit
meter-pins = refl

-- the areas end where the octets of a record do
pub record_ends : area_place channel_count ≡ record_size
record_ends = refl
