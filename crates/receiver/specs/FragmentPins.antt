-- Frames in fragments (document 02, C-12) as tables: what the definitions give for lists of messages, and what the paper says. Here are the
-- numbers of fragments, and what is gathered; what such a frame leaves is in WholePins.antt.
use Rattle.std.specs.Prelude.{refl, ℕ, true, List, [], ◌∷◌, ◌++◌, map, length, take, drop, replicate}
use Rattle.tags.specs.Table.{Row, row, Agrees, span, each, refused_by, not_refused_by}
use Rattle.tags.specs.Rows.{place_of}
use Rattle.tags.specs.Rows.{colour_of, lit_among}
use Rattle.tags.specs.Rows.{rows_of, lit_in}
use Rattle.tags.specs.Tag.{defined_group, is_single, reserved_space, known_tag, slot_for}
use Rattle.tags.specs.Dictionary.{misplaced, repeated, tag_number, role_for, sample_with, allowed_after, read, step, walked, incomplete, end_number, dictionary_number, dictionary_sample}
use Rattle.tags.specs.Dimmer.{overlaps_any, bad_dimmer_tag, clashing_tag, dimmer_tag_number, mapping_with, read_dimmer, step_dimmer, dimmed, dimmer_number, dimmer_mapping}
use Rattle.tags.specs.Levels.{count_sum, levels_fit, mapped_sum, levels_written}
use Rattle.receiver.specs.Message.{tags_of, data_of}
use Rattle.receiver.specs.Governing.{meant, routed_to}
use Rattle.receiver.specs.Slices.{lent}
use Rattle.receiver.specs.Chunk.{points_of, lit_points_of, levels_of}
use Rattle.receiver.specs.Gathering.{whole_of}
use Rattle.receiver.specs.Meters.{sums, added_by}
use Rattle.receiver.specs.Checks.{header_number, tags_number, routing_number, route_number, held_elsewhere, holder_number, closed_number, governs, sequel_number, match_number, room_number, draw_number, dim_number, content_number, meter_number, whole_number, Standing, in_order, number_of}
use Rattle.receiver.specs.Effects.{reply_of, sums_after, gathering_after}
use Rattle.receiver.specs.LookBack.{offer, lookback, gathering_by, worked_out, judged, replies_by, history_numbers}
use Rattle.receiver.specs.Section.{section_number, section_start, data_section}
use Rattle.receiver.specs.PinMessages.{number_at, number_for, offered, numbers_of, numbers_with, numbers_lent, gathered_after, each_of, message, routing, plain, unrouted, fragment, sequel, last_sequel, drawing_tags, bringing, two_coloured, frames, waves, voids, dark, alive, close, undivided, opening, middle, ending}

-- ---- messages

-- a first fragment's octets: a header with these flags alone
header : ℕ → List ℕ
header flags = flags ∷ replicate 3 0

-- the whole frame as a first fragment with Close, with Routing and without
routed_closing : List ℕ
routed_closing = routing 0 3 3 0 2 drawing_tags undivided

closing : List ℕ
closing = unrouted 0 3 2 undivided

-- on channel 0, open in mode 2 with SDM 0: accepted with Routing, two of them to mode 0; accepted with Close; refused by 19
routings : List (List ℕ)
routings = frames 0 ∷ two_coloured ∷ voids 0 ∷ routing 0 3 1 0 0 [] [] ∷ []

closings : List (List ℕ)
closings = close 0 ∷ unrouted 0 2 2 (dark 0) ∷ []

mismatches : List (List ℕ)
mismatches = plain 0 2 (dark 0x10) ∷ fragment 0 200 (header 0x10) ∷ routing 0 3 1 0 2 drawing_tags (header 0x10) ∷ []

-- ---- what is asked

-- a frame is begun on channel 0: the numbers of the messages behind it, and lent n octets of assembly
behind : List (List ℕ) → List ℕ
behind ms = drop 1 (numbers_of (opening 0 ∷ ms))

behind_lent : ℕ → List (List ℕ) → List ℕ
behind_lent n ms = drop 1 (numbers_lent n (opening 0 ∷ ms))

-- every channel is open in mode 2, and n octets of a frame on channel 0 are counted
counted : ℕ → Standing
counted n =
    record {
      channels = λ c. meant (routed_to 2 0 0 drawing_tags);
      gathering = record { is_on = true; channel = 0; count = n; octets = []; timestamp = 100; sequel = 1 };
      sums = sums 0 0 0;
    }

-- ---- the tables

-- the number of a fragment
pub fragment_table : List (Row ℕ)
fragment_table =
    -- "Check 4 lets both types in": they come to 16, of a closed channel
    row (map number_for (fragment 0 0 [] ∷ sequel 0 0 [] ∷ last_sequel 0 0 [] ∷ [])) (16 ∷ 16 ∷ 16 ∷ [])
    -- "both go with mode 2": in modes 1, 4 and 6 a first fragment is 17; "checks 5 and 17 to 19 pass it by", a sequel, which is 24
    ∷ row (map (λ mode. number_for (bringing mode 3 4)) (1 ∷ 2 ∷ 4 ∷ 6 ∷ [])) (17 ∷ 0 ∷ 17 ∷ 17 ∷ [])
    ∷ row (each (1 ∷ 2 ∷ 4 ∷ 6 ∷ []) (λ mode. numbers_of (bringing mode 0 0 ∷ fragment 0 100 (header 0) ∷ sequel 0 101 [] ∷ [])))
    (0 ∷ 17 ∷ 24 ∷ 0 ∷ 0 ∷ 0 ∷ 0 ∷ 17 ∷ 24 ∷ 0 ∷ 17 ∷ 24 ∷ [])
    -- "in mode 0 they are accepted, past 24 to 26, and ignored": whatever their octets and timestamps, and lent no assembly
    ∷ row (numbers_lent 0 (voids 0 ∷ sequel 0 7 [] ∷ fragment 0 9 (0x30 ∷ []) ∷ sequel 0 8 (9 ∷ []) ∷ last_sequel 0 9 (1 ∷ []) ∷ []))
    (replicate 5 0)
    ∷ row (numbers_lent 0 (routing 0 3 1 0 0 [] (9 ∷ []) ∷ last_sequel 0 0 [] ∷ unrouted 0 3 2 [] ∷ sequel 0 0 [] ∷ [])) (0 ∷ 0 ∷ 0 ∷ 16 ∷ [])
    -- "The first message carries the chunk header and may carry configuration"; "checks 17 to 19 run on it"
    ∷ row (refused_by (18 ∷ []) (λ n. number_for (bringing 2 3 n)) (span 0 8)) (0 ∷ 1 ∷ 2 ∷ 3 ∷ [])
    ∷ row (each (0x01 ∷ 0x11 ∷ 0x21 ∷ 0x31 ∷ []) (λ cfl.
    not_refused_by (19 ∷ []) (λ flags. number_for (routing 0 3 cfl 0 2 drawing_tags (header flags))) (0x00 ∷ 0x10 ∷ 0x20 ∷ 0x30 ∷ 0xCF ∷ [])))
    (0x00 ∷ 0xCF ∷ 0x10 ∷ 0x20 ∷ 0x30 ∷ [])
    -- 5, 6, 7 and 12, and then 17, 18 and 19, come before 26
    ∷ row (each_of (message 0xC0 3 [] ∷ routing 0 3 1 0 3 [] [] ∷ routing 0 3 1 2 2 [] [] ∷ routing 0 3 1 0 2 [] [] ∷ []) (λ m.
    numbers_lent 0 (m ∷ [])))
    (5 ∷ 6 ∷ 7 ∷ 12 ∷ [])
    ∷ row (each_of (bringing 1 3 0 ∷ routing 0 3 1 0 2 drawing_tags (0x10 ∷ []) ∷ routing 0 3 1 0 2 drawing_tags (header 0x10) ∷ []) (λ m.
    numbers_lent 0 (m ∷ [])))
    (17 ∷ 18 ∷ 19 ∷ [])
    -- 20 to 23 are not tried on it: samples that are not whole, one sample, no rows, and meters at their limit
    ∷ row (map (λ n. number_at (sums 36_000_000_000_000_000 36_000_000_000_000_000 0) 0 0 (bringing 2 3 n)) (4 ∷ 5 ∷ 7 ∷ 10 ∷ []))
    (0 ∷ 0 ∷ 0 ∷ 0 ∷ [])
    -- its configuration "takes hold then": mode and SDM; 19 closes its channel
    ∷ row (numbers_of (routing 5 3 0x11 0 2 drawing_tags (header 0x10) ∷ plain 5 2 (dark 0x10) ∷ sequel 5 1 []
    ∷ plain 5 2 (dark 0) ∷ alive 5 ∷ []))
    (0 ∷ 0 ∷ 0 ∷ 19 ∷ 16 ∷ [])
    ∷ row (numbers_of (frames 0 ∷ fragment 0 100 (header 0x10) ∷ alive 0 ∷ [])) (0 ∷ 19 ∷ 16 ∷ [])
    -- "Sequels carry bare octets from octet 8 .. and CCLF as the mark of the last": 18 and 19 "pass it by", and 5 the last; then 20 or 26
    ∷ row (each (0 ∷ 1 ∷ 3 ∷ 6 ∷ []) (λ n. numbers_of (bringing 2 3 4 ∷ sequel 0 1 (replicate n 0x30) ∷ last_sequel 0 2 [] ∷ [])))
    (0 ∷ 0 ∷ 0 ∷ 0 ∷ 0 ∷ 20 ∷ 0 ∷ 0 ∷ 20 ∷ 0 ∷ 0 ∷ 0 ∷ [])
    ∷ row (each (span 0 8) (λ n. drop 1 (numbers_lent 10 (bringing 2 3 4 ∷ last_sequel 0 1 (replicate n 0x30) ∷ []))))
    (0 ∷ 20 ∷ 20 ∷ 20 ∷ 20 ∷ 20 ∷ 0 ∷ 26 ∷ [])
    -- the data section is from octet 8 too
    ∷ row (each_of (sequel 0 0 (7 ∷ []) ∷ last_sequel 0 0 [] ∷ last_sequel 0 0 (0 ∷ 1 ∷ 0 ∷ 0 ∷ 7 ∷ []) ∷ []) (λ m.
    section_start m ∷ length (data_section m) ∷ []))
    (8 ∷ 1 ∷ 8 ∷ 0 ∷ 8 ∷ 5 ∷ [])
    -- "A sequel never routes or closes": octets that would route to mode 0, and close, on a closed channel, in mode 0 and in mode 2
    ∷ row (each (1 ∷ 2 ∷ 3 ∷ []) (λ cfl. numbers_of (last_sequel 0 101 (0 ∷ cfl ∷ 0 ∷ 0 ∷ 9 ∷ []) ∷ alive 0 ∷ [])))
    (16 ∷ 16 ∷ 16 ∷ 16 ∷ 16 ∷ 16 ∷ [])
    ∷ row (each (1 ∷ 2 ∷ 3 ∷ []) (λ cfl. numbers_of (voids 0 ∷ last_sequel 0 101 (0 ∷ cfl ∷ 0 ∷ 0 ∷ 9 ∷ []) ∷ alive 0 ∷ []))) (replicate 9 0)
    ∷ row (each (1 ∷ 2 ∷ 3 ∷ []) (λ cfl. behind (last_sequel 0 101 (0 ∷ cfl ∷ 0 ∷ 0 ∷ 9 ∷ []) ∷ plain 0 1 [] ∷ [])))
    (0 ∷ 17 ∷ 0 ∷ 17 ∷ 0 ∷ 17 ∷ [])
    -- "after 16, 24 a sequel with no gathering on its channel": none at all, one on another channel, and after the last fragment
    ∷ row (numbers_of (middle 0 ∷ frames 0 ∷ middle 0 ∷ ending 0 ∷ [])) (16 ∷ 0 ∷ 24 ∷ 24 ∷ [])
    ∷ row (behind (frames 1 ∷ middle 1 ∷ last_sequel 1 101 [] ∷ middle 2 ∷ middle 0 ∷ [])) (0 ∷ 24 ∷ 24 ∷ 16 ∷ 0 ∷ [])
    ∷ row (behind (middle 0 ∷ ending 0 ∷ sequel 0 103 [] ∷ last_sequel 0 103 [] ∷ [])) (0 ∷ 0 ∷ 24 ∷ 24 ∷ [])
    -- "25 a wrong timestamp, which drops the gathering": one off in either direction, or in a higher octet, of a sequel and of the last
    ∷ row (each (100 ∷ 102 ∷ 0 ∷ 357 ∷ 65637 ∷ 16777317 ∷ []) (λ n. behind (sequel 0 n [] ∷ middle 0 ∷ [])))
    (each (span 0 6) (λ k. 25 ∷ 24 ∷ []))
    ∷ row (each (100 ∷ 101 ∷ 103 ∷ []) (λ n. behind (middle 0 ∷ last_sequel 0 n (2 ∷ []) ∷ ending 0 ∷ alive 0 ∷ [])))
    (each (span 0 3) (λ k. 0 ∷ 25 ∷ 24 ∷ 0 ∷ []))
    -- "a timestamp of the first plus their number from 1 (wrapping at 32 bits)"
    ∷ row (numbers_of (frames 0 ∷ fragment 0 0xFFFFFFFF (header 0) ∷ sequel 0 0 [] ∷ sequel 0 1 [] ∷ last_sequel 0 2 [] ∷ [])) (replicate 5 0)
    ∷ row (numbers_of (frames 0 ∷ fragment 0 0xFFFFFFFE (header 0) ∷ sequel 0 0xFFFFFFFF [] ∷ last_sequel 0 0 [] ∷ [])) (replicate 4 0)
    ∷ row (each (1 ∷ 0xFFFFFFFE ∷ 0xFFFFFFFF ∷ []) (λ n.
    numbers_of (frames 0 ∷ fragment 0 0xFFFFFFFF (header 0) ∷ sequel 0 n [] ∷ sequel 0 0 [] ∷ [])))
    (each (span 0 3) (λ k. 0 ∷ 0 ∷ 25 ∷ 24 ∷ []))
    -- 16 comes before 24, 24 before 25 and 26, 25 before 26 and 20, and 26 before 20
    ∷ row (behind_lent 8 (frames 1 ∷ sequel 2 7 (9 ∷ []) ∷ sequel 1 7 (9 ∷ []) ∷ sequel 0 7 (9 ∷ []) ∷ [])) (0 ∷ 16 ∷ 24 ∷ 25 ∷ [])
    ∷ row (each (100 ∷ 101 ∷ []) (λ n. behind_lent 8 (last_sequel 0 n [] ∷ []) ++ behind_lent 8 (last_sequel 0 n (9 ∷ []) ∷ [])))
    (25 ∷ 25 ∷ 20 ∷ 26 ∷ [])
    -- "26 an assembly slice too short for the octets so far": at the first, whose routing then does not hold, at a sequel, at the last
    ∷ row (each (0 ∷ 3 ∷ 4 ∷ 5 ∷ []) (λ n. numbers_lent n (bringing 2 3 4 ∷ alive 0 ∷ []))) (26 ∷ 16 ∷ 26 ∷ 16 ∷ 0 ∷ 0 ∷ 0 ∷ 0 ∷ [])
    ∷ row (each (8 ∷ 9 ∷ 10 ∷ []) (λ n. behind_lent n (middle 0 ∷ ending 0 ∷ sequel 0 103 [] ∷ alive 0 ∷ [])))
    (26 ∷ 24 ∷ 24 ∷ 0 ∷ 0 ∷ 26 ∷ 24 ∷ 0 ∷ 0 ∷ 0 ∷ 24 ∷ 0 ∷ [])
    -- lent shorter than before: a sequel without octets counts those before it
    ∷ row (each (7 ∷ 8 ∷ []) (λ n. history_numbers (sums 0 0 0) (offered (opening 0) ∷ offer (sequel 0 101 []) (lent 12000 1024 n) ∷ [])))
    (0 ∷ 26 ∷ 0 ∷ 0 ∷ [])
    -- "or over 1,000,000,000 of them"; other types need no assembly
    ∷ row (map (λ n. number_of (sequel 0 101 (9 ∷ [])) (lent 0 0 2_000_000_000) (counted n))
    (999_999_998 ∷ 999_999_999 ∷ 1_000_000_000 ∷ []))
    (0 ∷ 0 ∷ 26 ∷ [])
    ∷ row (numbers_lent 0 (two_coloured ∷ alive 0 ∷ [])) (0 ∷ 0 ∷ [])
    ∷ []

pub fragment-pins : Agrees fragment_table
unfolding header behind behind_lent counted fragment_table place_of colour_of lit_among rows_of lit_in defined_group is_single reserved_space known_tag slot_for misplaced repeated tag_number role_for sample_with allowed_after read step walked incomplete end_number dictionary_number dictionary_sample overlaps_any bad_dimmer_tag clashing_tag dimmer_tag_number mapping_with read_dimmer step_dimmer dimmed dimmer_number dimmer_mapping count_sum levels_fit mapped_sum levels_written tags_of data_of meant header_number tags_number routing_number route_number held_elsewhere holder_number closed_number governs points_of lit_points_of levels_of whole_of sequel_number match_number room_number draw_number dim_number content_number added_by meter_number whole_number in_order number_of reply_of sums_after gathering_after lookback gathering_by worked_out judged replies_by section_number section_start data_section
fragment-pins = refl

-- what is gathered, what drops it, and what does not
pub gathering_table : List (Row ℕ)
gathering_table =
    -- "One frame at a time is gathered, header first": the channel, the count, the first timestamp, the next sequel's number, the octets
    row (gathered_after (opening 5 ∷ [])) (1 ∷ 5 ∷ 8 ∷ 100 ∷ 1 ∷ take 8 undivided)
    ∷ row (gathered_after (opening 5 ∷ middle 5 ∷ [])) (1 ∷ 5 ∷ 9 ∷ 100 ∷ 2 ∷ take 9 undivided)
    ∷ row (gathered_after (opening 5 ∷ middle 5 ∷ ending 5 ∷ [])) (replicate 5 0)
    -- its octets stand behind a configuration header without Routing, and from octet 8 without one
    ∷ row (gathered_after (frames 0 ∷ unrouted 0 3 0 undivided ∷ [])) (1 ∷ 0 ∷ 10 ∷ 0 ∷ 1 ∷ undivided)
    ∷ row (gathered_after (frames 63 ∷ fragment 63 9 undivided ∷ [])) (1 ∷ 63 ∷ 10 ∷ 9 ∷ 1 ∷ undivided)
    -- "A first fragment accepted in mode 2 .. drops what was gathered", on another channel and on its own
    ∷ row (behind (opening 1 ∷ middle 0 ∷ middle 1 ∷ ending 1 ∷ [])) (0 ∷ 24 ∷ 0 ∷ 0 ∷ [])
    ∷ row (each (101 ∷ 201 ∷ []) (λ n. behind (fragment 0 200 (header 0) ∷ sequel 0 n [] ∷ []))) (0 ∷ 25 ∷ 0 ∷ 0 ∷ [])
    ∷ row (gathered_after (frames 1 ∷ opening 0 ∷ middle 0 ∷ fragment 1 200 (header 0) ∷ [])) (1 ∷ 1 ∷ 4 ∷ 200 ∷ 1 ∷ header 0)
    -- "or on that channel an accepted routing or close or a refusal 19": its number and that of a sequel behind it; nothing is gathered
    ∷ row (each_of routings (λ m. behind (m ∷ middle 0 ∷ []))) (0 ∷ 24 ∷ 0 ∷ 24 ∷ 0 ∷ 0 ∷ 0 ∷ 0 ∷ [])
    ∷ row (each_of closings (λ m. behind (m ∷ middle 0 ∷ []))) (0 ∷ 16 ∷ 0 ∷ 16 ∷ [])
    ∷ row (each_of mismatches (λ m. behind (m ∷ middle 0 ∷ []))) (19 ∷ 16 ∷ 19 ∷ 16 ∷ 19 ∷ 16 ∷ [])
    ∷ row (each_of (routings ++ closings ++ mismatches) (λ m. gathered_after (opening 0 ∷ m ∷ []))) (replicate 45 0)
    -- C-13: so does a 19 in place of 15, and 17, 18 and 15 do not
    ∷ row (behind (waves 1 ∷ routing 0 1 1 0 1 drawing_tags (dark 0x10) ∷ middle 0 ∷ [])) (0 ∷ 19 ∷ 16 ∷ [])
    ∷ row (gathered_after (opening 0 ∷ waves 1 ∷ routing 0 1 1 0 1 drawing_tags (dark 0x10) ∷ [])) (replicate 5 0)
    ∷ row (behind (waves 1 ∷ routing 0 3 1 0 1 drawing_tags (dark 0x10) ∷ routing 0 1 1 0 1 drawing_tags [] ∷ waves 0 ∷ middle 0 ∷ [])) (0 ∷ 17 ∷ 18 ∷ 15 ∷ 0 ∷ [])
    -- not on another channel: a routing, a close, and 19 of a frame and of a first fragment
    ∷ row (behind (frames 1 ∷ close 1 ∷ middle 0 ∷ [])) (0 ∷ 0 ∷ 0 ∷ [])
    ∷ row (behind (routing 1 2 1 0 2 drawing_tags (dark 0) ∷ plain 1 2 (dark 0x10) ∷ middle 0 ∷ [])) (0 ∷ 19 ∷ 0 ∷ [])
    ∷ row (behind (routing 1 3 1 0 2 drawing_tags (header 0x10) ∷ middle 0 ∷ [])) (19 ∷ 0 ∷ [])
    -- nor do fragments in mode 0: they are "ignored", and none of them is gathered
    ∷ row (behind (voids 1 ∷ fragment 1 200 (header 0) ∷ sequel 1 7 [] ∷ middle 0 ∷ [])) (0 ∷ 0 ∷ 0 ∷ 0 ∷ [])
    ∷ row (behind (routing 1 3 1 0 0 [] (header 0) ∷ last_sequel 1 101 [] ∷ middle 0 ∷ [])) (0 ∷ 0 ∷ 0 ∷ [])
    ∷ row (gathered_after (routing 1 3 1 0 0 [] undivided ∷ sequel 1 1 [] ∷ [])) (replicate 5 0)
    -- nor other refusals, on its channel (2, 4, 12, 13; 17, 18, 20; 22 and 23) and on others (16; 17, 24), a refused Close among them
    ∷ row (behind ((0 ∷ 9 ∷ replicate 6 0x80) ∷ plain 0 0x80 [] ∷ routing 0 3 1 0 2 [] []
    ∷ routing 0 0 3 0 4 (header 0x40) [] ∷ middle 0 ∷ []))
    (2 ∷ 4 ∷ 12 ∷ 13 ∷ 0 ∷ [])
    ∷ row (behind (plain 0 1 (dark 0) ∷ fragment 0 200 (replicate 3 0) ∷ unrouted 0 2 2 [] ∷ plain 0 2 (replicate 7 0) ∷ middle 0 ∷ []))
    (17 ∷ 18 ∷ 18 ∷ 20 ∷ 0 ∷ [])
    ∷ row (numbers_with (sums 36_000_000_000_000_000 0 0) (lent 48 0 12)
    (opening 0 ∷ plain 0 2 (replicate 13 0) ∷ plain 0 2 undivided ∷ middle 0 ∷ []))
    (0 ∷ 22 ∷ 23 ∷ 0 ∷ [])
    ∷ row (behind (fragment 1 100 (header 0) ∷ middle 1 ∷ middle 0 ∷ [])) (16 ∷ 16 ∷ 0 ∷ [])
    ∷ row (behind (routing 1 0 1 0 4 [] [] ∷ fragment 1 100 (header 0) ∷ middle 1 ∷ middle 0 ∷ [])) (0 ∷ 17 ∷ 24 ∷ 0 ∷ [])
    -- nor frames and Void chunks between, a configuration header without Routing and Close, and a wave elsewhere
    ∷ row (behind (plain 0 2 undivided ∷ alive 0 ∷ middle 0 ∷ unrouted 0 2 0 undivided ∷ ending 0 ∷ [])) (replicate 5 0)
    ∷ row (behind (routing 1 1 1 0 1 drawing_tags (replicate 64 0) ∷ middle 0 ∷ [])) (0 ∷ 0 ∷ [])
    -- 26 "drops any gathering": that of another channel, and its own, where the routing before still holds
    ∷ row (behind_lent 8 (frames 1 ∷ fragment 1 200 (replicate 9 0) ∷ middle 0 ∷ sequel 1 201 [] ∷ [])) (0 ∷ 26 ∷ 24 ∷ 24 ∷ [])
    ∷ row (behind_lent 8 (routing 0 3 0x13 0 2 drawing_tags (0x10 ∷ replicate 8 0) ∷ middle 0 ∷ plain 0 2 (dark 0) ∷ [])) (26 ∷ 24 ∷ 0 ∷ [])
    -- a first fragment with Close is accepted, and "Close acts after the message": neither it nor what was before is then gathered
    ∷ row (numbers_of (routed_closing ∷ alive 0 ∷ frames 0 ∷ closing ∷ alive 0 ∷ [])) (0 ∷ 16 ∷ 0 ∷ 0 ∷ 16 ∷ [])
    ∷ row (numbers_of (opening 1 ∷ routed_closing ∷ middle 1 ∷ [])) (0 ∷ 0 ∷ 24 ∷ [])
    ∷ row (each_of (routed_closing ∷ closing ∷ []) (λ m. gathered_after (opening 0 ∷ m ∷ []))) (replicate 10 0)
    ∷ []

pub gathering-pins : Agrees gathering_table
unfolding header routed_closing closing routings closings mismatches behind behind_lent gathering_table place_of colour_of lit_among rows_of lit_in defined_group is_single reserved_space known_tag slot_for misplaced repeated tag_number role_for sample_with allowed_after read step walked incomplete end_number dictionary_number dictionary_sample overlaps_any bad_dimmer_tag clashing_tag dimmer_tag_number mapping_with read_dimmer step_dimmer dimmed dimmer_number dimmer_mapping count_sum levels_fit mapped_sum levels_written tags_of data_of meant header_number tags_number routing_number route_number held_elsewhere holder_number closed_number governs points_of lit_points_of levels_of whole_of sequel_number match_number room_number draw_number dim_number content_number added_by meter_number whole_number in_order number_of reply_of sums_after gathering_after lookback gathering_by worked_out judged replies_by
gathering-pins = refl
