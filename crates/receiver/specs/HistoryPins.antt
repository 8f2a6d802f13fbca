-- What one message leaves to the next, and which check comes first where two apply (document 01, "Meters and the look-back rule" and
-- "Checks, in order"), as tables: what the definitions give for lists of messages, and what the paper says.
use Rattle.std.specs.Prelude.{refl, ℕ, List, [], ◌∷◌, ◌++◌, map, get_or, replicate}
use Rattle.tags.specs.Table.{Row, row, Agrees, each}
use Rattle.tags.specs.Rows.{place_of}
use Rattle.tags.specs.Rows.{colour_of, lit_among}
use Rattle.tags.specs.Rows.{rows_of, lit_in}
use Rattle.tags.specs.Tag.{defined_group, is_single, reserved_space, known_tag, slot_for}
use Rattle.tags.specs.Dictionary.{misplaced, repeated, tag_number, role_for, sample_with, allowed_after, read, step, walked, incomplete, end_number, dictionary_number, dictionary_sample}
use Rattle.tags.specs.Dimmer.{overlaps_any, bad_dimmer_tag, clashing_tag, dimmer_tag_number, mapping_with, read_dimmer, step_dimmer, dimmed, dimmer_number, dimmer_mapping}
use Rattle.tags.specs.Levels.{count_sum, levels_fit, mapped_sum, levels_written}
use Rattle.receiver.specs.Message.{tags_of, data_of}
use Rattle.receiver.specs.Governing.{meant}
use Rattle.receiver.specs.Slices.{lent}
use Rattle.receiver.specs.Chunk.{points_of, lit_points_of, levels_of}
use Rattle.receiver.specs.Gathering.{whole_of}
use Rattle.receiver.specs.Meters.{sums, added_by}
use Rattle.receiver.specs.Checks.{header_number, tags_number, routing_number, route_number, held_elsewhere, holder_number, closed_number, governs, sequel_number, match_number, room_number, draw_number, dim_number, content_number, meter_number, whole_number, in_order, number_of}
use Rattle.receiver.specs.Effects.{reply_of, sums_after, gathering_after}
use Rattle.receiver.specs.LookBack.{lookback, gathering_by, worked_out, judged, replies_by}
use Rattle.receiver.specs.PinMessages.{number_at, number_for, numbers_of, numbers_with, meters_after, fields_after, message, routing, plain, unrouted, drawing_tags, bringing, two_coloured, frames, waves, dark, alive, close}

-- ---- messages

-- C-13: channel c asks for mode 1, with SDM 0 and a chunk of this type; and its number where channel 0 has mode 1
asking : ℕ → ℕ → List ℕ → List ℕ
asking c t chunk = routing c t 1 0 1 drawing_tags chunk

while_held : List ℕ → ℕ
while_held m = get_or (numbers_of (waves 0 ∷ m ∷ [])) 1 0

-- ---- the tables

pub channel_table : List (Row ℕ)
channel_table =
    -- "Another is governed by the latest earlier message on its channel that was accepted with Routing": mode, SDM and tags; on no other
    row (numbers_of (frames 0 ∷ plain 0 2 (dark 0) ∷ alive 0 ∷ alive 1 ∷ [])) (0 ∷ 0 ∷ 0 ∷ 16 ∷ [])
    ∷ row (numbers_of (frames 0 ∷ routing 0 0 0x11 0 4 [] [] ∷ plain 0 2 (dark 0) ∷ plain 0 0x18 (dark 0x10) ∷ [])) (0 ∷ 0 ∷ 17 ∷ 0 ∷ [])
    -- "Without Routing, SCWC, SDM, service and mode are ignored"
    ∷ row (numbers_of (frames 0 ∷ unrouted 0 2 0x30 (dark 0) ∷ alive 0 ∷ [])) (0 ∷ 0 ∷ 0 ∷ [])
    -- "accepted with Close": the channel is closed, by a message with Routing too; "Close acts after the message"
    ∷ row (numbers_of (frames 0 ∷ close 0 ∷ alive 0 ∷ frames 0 ∷ alive 0 ∷ [])) (0 ∷ 0 ∷ 16 ∷ 0 ∷ 0 ∷ [])
    ∷ row (numbers_of (routing 0 2 3 0 2 drawing_tags (dark 0) ∷ alive 0 ∷ [])) (0 ∷ 16 ∷ [])
    ∷ row (meters_after (sums 0 0 0) (routing 0 2 3 0 2 drawing_tags (dark 0) ∷ frames 0 ∷ unrouted 0 2 2 (dark 0) ∷ [])) (0 ∷ 4 ∷ 0 ∷ [])
    -- "only 19 closes the channel": 17, 18, 20 and 22 do not, nor does a refused Close
    ∷ row (numbers_of (frames 0 ∷ plain 0 2 (dark 0x10) ∷ alive 0 ∷ [])) (0 ∷ 19 ∷ 16 ∷ [])
    ∷ row (numbers_of (frames 0 ∷ plain 0 1 (dark 0) ∷ plain 0 2 [] ∷ plain 0 2 (replicate 7 0) ∷ unrouted 0 2 2 [] ∷ plain 0 2 (replicate 1600 0) ∷ alive 0 ∷ []))
    (0 ∷ 17 ∷ 18 ∷ 20 ∷ 18 ∷ 22 ∷ 0 ∷ [])
    -- a routing whose message was refused does not hold, and one refused by 19 closes the channel that was open
    ∷ row (numbers_of (frames 0 ∷ routing 0 0 1 0 4 (0x40 ∷ replicate 3 0) [] ∷ routing 0 2 1 0 2 [] [] ∷ plain 0 2 (dark 0) ∷ [])) (0 ∷ 13 ∷ 12 ∷ 0 ∷ [])
    ∷ row (numbers_of (frames 0 ∷ routing 0 0x18 1 0 4 [] (dark 0x10) ∷ alive 0 ∷ [])) (0 ∷ 19 ∷ 16 ∷ [])
    -- "A channel's mode for check 15 is found likewise": after a Close, a 19 or a routing elsewhere another channel may have mode 1
    ∷ row (numbers_of (waves 0 ∷ waves 1 ∷ close 0 ∷ waves 1 ∷ waves 0 ∷ [])) (0 ∷ 15 ∷ 0 ∷ 0 ∷ 15 ∷ [])
    ∷ row (numbers_of (waves 0 ∷ plain 0 1 (dark 0x10) ∷ waves 1 ∷ frames 0 ∷ [])) (0 ∷ 19 ∷ 0 ∷ 0 ∷ [])
    ∷ row (numbers_of (waves 0 ∷ frames 0 ∷ waves 1 ∷ [])) (0 ∷ 0 ∷ 0 ∷ [])
    -- C-13: where 19 stands in place of 15 it closes the message's own channel, and the one that has mode 1 keeps it; 17, 18 and 15 close none
    ∷ row (numbers_of (waves 0 ∷ frames 1 ∷ asking 1 1 (dark 0x10) ∷ alive 1 ∷ alive 0 ∷ waves 2 ∷ waves 0 ∷ [])) (0 ∷ 0 ∷ 19 ∷ 16 ∷ 0 ∷ 15 ∷ 0 ∷ [])
    ∷ row (numbers_of (waves 0 ∷ frames 1 ∷ asking 1 2 (dark 0) ∷ asking 1 1 [] ∷ waves 1 ∷ plain 1 2 (dark 0) ∷ alive 0 ∷ [])) (0 ∷ 0 ∷ 17 ∷ 18 ∷ 15 ∷ 0 ∷ 0 ∷ [])
    -- a 19 closes it with Close too, here and without Routing
    ∷ row (numbers_of (waves 0 ∷ frames 1 ∷ routing 1 1 3 0 1 drawing_tags (dark 0x10) ∷ alive 1 ∷ [])) (0 ∷ 0 ∷ 19 ∷ 16 ∷ [])
    ∷ row (numbers_of (frames 0 ∷ unrouted 0 2 2 (dark 0x10) ∷ alive 0 ∷ [])) (0 ∷ 19 ∷ 16 ∷ [])
    -- "histories are metered under the new order": a frame of two points behind the 19, and behind the 17
    ∷ row (meters_after (sums 1 2 3) (waves 0 ∷ frames 1 ∷ asking 1 1 (dark 0x10) ∷ plain 1 2 (dark 0) ∷ [])) (1 ∷ 2 ∷ 3 ∷ [])
    ∷ row (meters_after (sums 1 2 3) (waves 0 ∷ frames 1 ∷ asking 1 2 (dark 0x10) ∷ plain 1 2 (dark 0) ∷ [])) (1 ∷ 4 ∷ 3 ∷ [])
    -- the reply: number, channel, type, timestamp, space modifier in force, points, lit points, levels; "a refusal has 0 in all but the number"
    ∷ row (fields_after (routing 5 0 1 0 2 (drawing_tags ++ (0x11 ∷ 0x55 ∷ 0x00 ∷ 0x00 ∷ [])) [] ∷ (0x00 ∷ 0x12 ∷ 0x85 ∷ 0x02 ∷ 0x01 ∷ 0x02 ∷ 0x03 ∷ 0x04 ∷ replicate 9 0 ++ (9 ∷ [])) ∷ (0x00 ∷ 0x08 ∷ 0x86 ∷ 0x00 ∷ 0x01 ∷ 0x02 ∷ 0x03 ∷ 0x04 ∷ []) ∷ []))
    (0 ∷ 5 ∷ 0 ∷ 0 ∷ 0x1155 ∷ 0 ∷ 0 ∷ 0 ∷ 0 ∷ 5 ∷ 2 ∷ 0x01020304 ∷ 0x1155 ∷ 2 ∷ 1 ∷ 0 ∷ 16 ∷ 0 ∷ 0 ∷ 0 ∷ 0 ∷ 0 ∷ 0 ∷ 0 ∷ [])
    ∷ []

pub channel-pins : Agrees channel_table
unfolding asking channel_table place_of colour_of lit_among rows_of lit_in defined_group is_single reserved_space known_tag slot_for misplaced repeated tag_number role_for sample_with allowed_after read step walked incomplete end_number dictionary_number dictionary_sample overlaps_any bad_dimmer_tag clashing_tag dimmer_tag_number mapping_with read_dimmer step_dimmer dimmed dimmer_number dimmer_mapping count_sum levels_fit mapped_sum levels_written tags_of data_of meant header_number tags_number routing_number route_number held_elsewhere holder_number closed_number governs points_of lit_points_of levels_of whole_of sequel_number match_number room_number draw_number dim_number content_number added_by meter_number whole_number in_order number_of reply_of sums_after gathering_after lookback gathering_by worked_out judged replies_by
channel-pins = refl

-- "Checks, in order": of two checks that both apply to a message, the one that refuses it
pub order_table : List (Row ℕ)
order_table =
    -- 2 and 3, 3 and 4, 4 and 5, 5 and 6, 6 and 7, 7 and 8
    row (map number_for ((0 ∷ 9 ∷ replicate 6 0) ∷ message 0x00 0x80 [] ∷ message 0xC0 0x80 [] ∷ message 0xC0 0 (1 ∷ 1 ∷ 0 ∷ 99 ∷ []) ∷ routing 0 0 1 99 99 [] [] ∷ routing 0 0 1 2 1 (replicate 4 0x30) [] ∷ []))
    (2 ∷ 3 ∷ 4 ∷ 5 ∷ 6 ∷ 7 ∷ [])
    -- 12 and 15, 16 and 17
    ∷ row (numbers_of (waves 0 ∷ routing 1 0 1 0 1 [] [] ∷ plain 2 2 (dark 0) ∷ [])) (0 ∷ 12 ∷ 16 ∷ [])
    -- C-13, "For messages with Routing, 17, 18 and 19 are now tried before 15": 17 and 15; 18 and 15, of a Void chunk and of a wave; 19 and 15
    ∷ row (map (λ t. while_held (asking 1 t (dark 0))) (0x02 ∷ 0x03 ∷ 0x18 ∷ [])) (17 ∷ 17 ∷ 17 ∷ [])
    ∷ row (while_held (asking 1 0 (0 ∷ [])) ∷ map (λ n. while_held (asking 1 1 (replicate n 0))) (0 ∷ 3 ∷ 4 ∷ [])) (18 ∷ 18 ∷ 18 ∷ 15 ∷ [])
    ∷ row (each (0x01 ∷ 0x11 ∷ 0x21 ∷ 0x31 ∷ []) (λ cfl. map (λ flags. while_held (routing 1 1 cfl 0 1 drawing_tags (dark flags))) (0x00 ∷ 0x10 ∷ 0x20 ∷ 0x30 ∷ [])))
    (15 ∷ 19 ∷ 19 ∷ 19 ∷ 19 ∷ 15 ∷ 19 ∷ 19 ∷ 19 ∷ 19 ∷ 15 ∷ 19 ∷ 19 ∷ 19 ∷ 19 ∷ 15 ∷ [])
    -- the same with Close; a Void chunk without data passes 17 and 18 and skips 19
    ∷ row (map (λ (chunk : List ℕ). while_held (routing 1 1 3 0 1 drawing_tags chunk)) ([] ∷ dark 0x10 ∷ dark 0 ∷ [])) (18 ∷ 19 ∷ 15 ∷ [])
    ∷ row (while_held (routing 1 2 3 0 1 drawing_tags (dark 0)) ∷ while_held (waves 1) ∷ []) (17 ∷ 15 ∷ [])
    -- without Routing 15 is not asked, whatever stands where a routing has its mode
    ∷ row (numbers_of (waves 0 ∷ frames 1 ∷ message 0xC1 0 (0 ∷ 0 ∷ 0 ∷ 1 ∷ []) ∷ plain 1 2 (0 ∷ 0 ∷ 0 ∷ 1 ∷ replicate 6 0) ∷ [])) (0 ∷ 0 ∷ 0 ∷ 0 ∷ [])
    -- 15 and 20; the channel that has mode 1 does not get 15
    ∷ row (map while_held (asking 1 1 (replicate 7 0) ∷ asking 0 1 (replicate 7 0) ∷ [])) (15 ∷ 20 ∷ [])
    -- 15 and 22, 15 and 23
    ∷ row (each (0 ∷ 480 ∷ []) (λ n. numbers_with (sums 0 36_000_000_000_000_000 0) (lent n 0 0) (waves 0 ∷ asking 1 1 (replicate 64 0) ∷ asking 0 1 (replicate 64 0) ∷ [])))
    (0 ∷ 15 ∷ 22 ∷ 0 ∷ 15 ∷ 23 ∷ [])
    -- 14 and 17, 17 and 18, 18 and 19, 19 and 20, 19 and 21
    ∷ row (map number_for (routing 0 1 1 0 4 (0x42 ∷ 0 ∷ 1 ∷ 0x42 ∷ 0 ∷ 1 ∷ 0 ∷ 0 ∷ []) [] ∷ bringing 2 1 0 ∷ routing 0 2 1 0 2 drawing_tags (0x10 ∷ []) ∷ routing 0 2 1 0 2 drawing_tags (0x10 ∷ replicate 6 0) ∷ routing 0 0x18 1 0 4 [] (0x10 ∷ replicate 600 0) ∷ []))
    (14 ∷ 17 ∷ 18 ∷ 19 ∷ 19 ∷ [])
    -- 20 and 22, 21 and 22, 22 and 23
    ∷ row (number_at (sums 0 0 0) 0 0 (bringing 2 2 7) ∷ number_at (sums 0 0 0) 0 0 (bringing 4 0x18 600) ∷ number_at (sums 36_000_000_000_000_000 0 0) 0 0 two_coloured ∷ []) (20 ∷ 21 ∷ 22 ∷ [])
    ∷ []

pub order_pins : Agrees order_table
unfolding asking while_held order_table place_of colour_of lit_among rows_of lit_in defined_group is_single reserved_space known_tag slot_for misplaced repeated tag_number role_for sample_with allowed_after read step walked incomplete end_number dictionary_number dictionary_sample overlaps_any bad_dimmer_tag clashing_tag dimmer_tag_number mapping_with read_dimmer step_dimmer dimmed dimmer_number dimmer_mapping count_sum levels_fit mapped_sum levels_written tags_of data_of meant header_number tags_number routing_number route_number held_elsewhere holder_number closed_number governs points_of lit_points_of levels_of whole_of sequel_number match_number room_number draw_number dim_number content_number added_by meter_number whole_number in_order number_of reply_of sums_after gathering_after lookback gathering_by worked_out judged replies_by
order_pins = refl
