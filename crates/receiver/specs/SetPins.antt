-- Sets (document 02, C-14) as a table: what the definitions give for lists of calls, and what the paper says. An answer is given by its
-- number if it is a message's, and by place and number if it is a set's.
use Rattle.std.specs.Prelude.{refl, ℕ, List, [], ◌∷◌, ◌++◌, length}
use Rattle.tags.specs.Table.{Row, row, Agrees, each, span}
use Rattle.tags.specs.Rows.{place_of}
use Rattle.tags.specs.Rows.{colour_of, lit_among}
use Rattle.tags.specs.Rows.{rows_of, lit_in}
use Rattle.tags.specs.Tag.{defined_group, is_single, reserved_space, known_tag, slot_for}
use Rattle.tags.specs.Dictionary.{misplaced, repeated, tag_number, role_for, sample_with, allowed_after, read, step, walked, incomplete, end_number, dictionary_number, dictionary_sample}
use Rattle.tags.specs.Dimmer.{overlaps_any, bad_dimmer_tag, clashing_tag, dimmer_tag_number, mapping_with, read_dimmer, step_dimmer, dimmed, dimmer_number, dimmer_mapping}
use Rattle.tags.specs.Levels.{count_sum, levels_fit, mapped_sum, levels_written}
use Rattle.receiver.specs.Message.{tags_of, data_of}
use Rattle.receiver.specs.Governing.{meant}
use Rattle.receiver.specs.Chunk.{points_of, lit_points_of, levels_of}
use Rattle.receiver.specs.Gathering.{whole_of}
use Rattle.receiver.specs.Meters.{sums, added_by}
use Rattle.receiver.specs.Checks.{Standing, header_number, tags_number, routing_number, route_number, held_elsewhere, holder_number, closed_number, governs, sequel_number, match_number, room_number, draw_number, dim_number, content_number, meter_number, whole_number, in_order, number_of}
use Rattle.receiver.specs.Effects.{reply_of, sums_after, governing_after, gathering_after}
use Rattle.receiver.specs.LookBack.{standing_by, history_judged, lookback, gathering_by, worked_out, judged, Called, Answer, offers_by, answer_by, answers_by, history_offers, history_answers, history_sums}
use Rattle.receiver.specs.Stream.{entry_of, messages_in, left_in, parts_in}
use Rattle.receiver.specs.Sets.{member_number, standing_after, replied_from, standing_behind, standing_by_set}
use Rattle.receiver.specs.Contract.{set_answer}
use Rattle.receiver.specs.Steps.{fresh, fresh_channels}
use Rattle.receiver.specs.Record.{configuration_of, consistent_at, consistent_up_to, consistent}
use Rattle.tags.specs.Kept.{sizes_fit}
use Rattle.receiver.specs.PinMessages.{offered, octets, message, routing, plain, undivided, two_coloured, frames, waves, voids, dark, alive, close, opening, middle, ending, each_of, bit}

-- ---- calls and their answers

abbrev one : List ℕ → Called
one m = Called.message (offered m)

abbrev told : List Answer → List ℕ
told [] = []
told (Answer.message r ∷ rest) = r.number ∷ told rest
told (Answer.set r ∷ rest) = r.place ∷ r.number ∷ told rest

abbrev answered : List Called → List ℕ
answered calls = told (history_answers (sums 0 0 0) calls)

-- the reply to one set at a receiver newly started
abbrev at_first : List ℕ → List ℕ
at_first octets = answered (Called.set octets ∷ [])

abbrev meters_of : List Called → List ℕ
meters_of calls =
    let s = history_sums (sums 1 2 3) (history_offers (sums 1 2 3) calls) in s.lit_time ∷ s.points ∷ s.lit_points ∷ []

-- a message with the tags of an empty dictionary, which check 12 refuses
abbrev incomplete_on : ℕ → List ℕ
incomplete_on c = routing c 0 1 0 2 [] []

-- what stands where the first fragment of a frame was offered
abbrev gathers : Standing
gathers = standing_by (sums 1 2 3) (history_judged (sums 1 2 3) (offered (opening 0) ∷ []))

-- ---- the table

pub set_table : List (Row ℕ)
set_table =
    -- "An empty list is accepted"; "otherwise it holds how many there were and 0"
    row (at_first []) (0 ∷ 0 ∷ [])
    ∷ row (at_first (frames 0)) (1 ∷ 0 ∷ [])
    ∷ row (at_first (frames 0 ++ voids 1 ++ alive 1)) (3 ∷ 0 ∷ [])
    -- "a size below 8 or past the slice, or a lone octet, by 2": alone, and behind a message
    ∷ row (each (0 ∷ 7 ∷ 9 ∷ []) (λ n. at_first (0 ∷ n ∷ 0x80 ∷ 0 ∷ 0 ∷ 0 ∷ 0 ∷ 0 ∷ []))) (0 ∷ 2 ∷ 0 ∷ 2 ∷ 0 ∷ 2 ∷ [])
    ∷ row (each_of ((0 ∷ []) ∷ (0 ∷ 8 ∷ []) ∷ (0 ∷ 8 ∷ 0x80 ∷ 0 ∷ 0 ∷ 0 ∷ 0 ∷ []) ∷ []) (λ (left : List ℕ). at_first (frames 0 ++ left))) (1 ∷ 2 ∷ 1 ∷ 2 ∷ 1 ∷ 2 ∷ [])
    -- what follows such a size is not looked at
    ∷ row (at_first (frames 0 ++ (0 ∷ 7 ∷ 0x80 ∷ 0 ∷ 0 ∷ 0 ∷ 0 ∷ []) ++ alive 9)) (1 ∷ 2 ∷ [])
    -- "A message of another type is refused by 4", one that could be offered by itself too
    ∷ row (each (0x01 ∷ 0x02 ∷ 0x03 ∷ 0x04 ∷ 0x18 ∷ 0xC0 ∷ 0xFF ∷ []) (λ t. at_first (frames 0 ++ plain 0 t (dark 0))))
    (1 ∷ 4 ∷ 1 ∷ 4 ∷ 1 ∷ 4 ∷ 1 ∷ 4 ∷ 1 ∷ 4 ∷ 1 ∷ 4 ∷ 1 ∷ 4 ∷ [])
    -- of two checks the first: 2 and 4 of a message that is too long, 3 and 4, 4 and 5, 4 and 16
    ∷ row (each_of (octets 65281 65281 ∷ message 0x00 0x02 [] ∷ message 0xC0 0x02 [] ∷ plain 0 2 (dark 0) ∷ []) at_first) (0 ∷ 2 ∷ 0 ∷ 3 ∷ 0 ∷ 4 ∷ 0 ∷ 4 ∷ [])
    -- the other numbers are those of the message by itself
    ∷ row (each_of (message 0x00 0 [] ∷ message 0xC0 0 [] ∷ routing 1 0 1 0 99 [] [] ∷ incomplete_on 1 ∷ alive 1 ∷ plain 0 0 (0 ∷ []) ∷ []) (λ (m : List ℕ). at_first (frames 0 ++ m ++ frames 2)))
    (1 ∷ 3 ∷ 1 ∷ 5 ∷ 1 ∷ 6 ∷ 1 ∷ 12 ∷ 1 ∷ 16 ∷ 1 ∷ 18 ∷ [])
    -- the place of the first refused message, of two that are
    ∷ row (each_of ((alive 5 ++ incomplete_on 0) ∷ (incomplete_on 0 ++ alive 5) ∷ (frames 5 ++ alive 5 ++ incomplete_on 0 ++ alive 6) ∷ []) at_first) (0 ∷ 16 ∷ 0 ∷ 12 ∷ 2 ∷ 12 ∷ [])
    -- "with the channels that offering them one by one would leave": 15 and 16 by what the messages before leave
    ∷ row (each_of ((waves 0 ++ waves 1) ∷ (waves 0 ++ close 0 ++ waves 1) ∷ (waves 0 ++ frames 0 ++ waves 1) ∷ (close 0 ++ frames 0) ∷ (frames 0 ++ close 0 ++ alive 0) ∷ []) at_first)
    (1 ∷ 15 ∷ 3 ∷ 0 ∷ 3 ∷ 0 ∷ 0 ∷ 16 ∷ 2 ∷ 16 ∷ [])
    ∷ row (answered (one (waves 0) ∷ Called.set (waves 1) ∷ Called.set (close 0 ++ waves 1) ∷ one (alive 0) ∷ one (waves 0) ∷ [])) (0 ∷ 0 ∷ 15 ∷ 2 ∷ 0 ∷ 16 ∷ 15 ∷ [])
    -- and what the last one leaves stands afterwards
    ∷ row (answered (Called.set (frames 0 ++ waves 1) ∷ one (alive 0) ∷ one (waves 2) ∷ one (plain 0 2 (dark 0)) ∷ [])) (2 ∷ 0 ∷ 0 ∷ 15 ∷ 0 ∷ [])
    ∷ row (answered (Called.set (frames 0 ++ routing 0 0 0x11 0 4 [] []) ∷ one (plain 0 2 (dark 0)) ∷ one (plain 0 0x18 (dark 0x10)) ∷ [])) (2 ∷ 0 ∷ 17 ∷ 0 ∷ [])
    ∷ row (answered (Called.set (frames 0 ++ frames 1 ++ close 0) ∷ one (alive 0) ∷ one (alive 1) ∷ [])) (3 ∷ 0 ∷ 16 ∷ 0 ∷ [])
    -- "All are accepted or none is": no message of a refused set stays, whichever was refused
    ∷ row (answered (Called.set (frames 0 ++ waves 1 ++ alive 2) ∷ one (alive 0) ∷ one (waves 2) ∷ [])) (2 ∷ 16 ∷ 16 ∷ 0 ∷ [])
    ∷ row (answered (one (frames 0) ∷ Called.set (close 0 ++ (0 ∷ [])) ∷ one (plain 0 2 (dark 0)) ∷ [])) (0 ∷ 1 ∷ 2 ∷ 0 ∷ [])
    -- C-12 in sets: an accepted routing or close of the frame's channel drops what was gathered; no other, and no refused set, does
    ∷ row (each_of (frames 0 ∷ close 0 ∷ frames 1 ∷ alive 0 ∷ (frames 0 ++ alive 1) ∷ []) (λ (octets : List ℕ). answered (one (opening 0) ∷ Called.set octets ∷ one (middle 0) ∷ one (ending 0) ∷ [])))
    (0 ∷ 1 ∷ 0 ∷ 24 ∷ 24 ∷ 0 ∷ 1 ∷ 0 ∷ 16 ∷ 16 ∷ 0 ∷ 1 ∷ 0 ∷ 0 ∷ 0 ∷ 0 ∷ 1 ∷ 0 ∷ 0 ∷ 0 ∷ 0 ∷ 1 ∷ 16 ∷ 0 ∷ 0 ∷ [])
    -- "An accepted set counts in a meter history as its messages in order, a refused one as no message.": a frame behind each, lit or not
    ∷ row (meters_of (Called.set (frames 0 ++ frames 1) ∷ one (plain 1 2 undivided) ∷ [])) (66052 ∷ 4 ∷ 4 ∷ [])
    ∷ row (meters_of (Called.set (frames 1 ++ alive 0) ∷ one (plain 1 2 undivided) ∷ [])) (1 ∷ 2 ∷ 3 ∷ [])
    ∷ row (meters_of (one two_coloured ∷ Called.set (frames 1 ++ alive 2) ∷ Called.set (close 0) ∷ one (plain 0 2 undivided) ∷ [])) (66052 ∷ 4 ∷ 4 ∷ [])
    ∷ row (meters_of (one (opening 0) ∷ one (middle 0) ∷ Called.set (alive 0) ∷ Called.set (frames 0 ++ (9 ∷ [])) ∷ one (ending 0) ∷ [])) (66052 ∷ 4 ∷ 4 ∷ [])
    ∷ row (meters_of (one (opening 0) ∷ one (middle 0) ∷ Called.set (frames 0) ∷ one (ending 0) ∷ [])) (1 ∷ 2 ∷ 3 ∷ [])
    -- "Check 1 comes first, at place 0", before the empty list too: records with the second meter at its limit and above it
    ∷ row (each_of ([] ∷ frames 0 ∷ (0 ∷ []) ∷ []) (λ (octets : List ℕ). each (36_000_000_000_000_000 ∷ 36_000_000_000_000_001 ∷ []) (λ n. let p = set_answer (fresh (sums 0 n 0)) octets [] in p.place ∷ p.number ∷ [])))
    (0 ∷ 0 ∷ 0 ∷ 1 ∷ 1 ∷ 0 ∷ 0 ∷ 1 ∷ 0 ∷ 2 ∷ 0 ∷ 1 ∷ [])
    -- as many messages as there are
    ∷ row (at_first (each (span 0 64) voids ++ alive 63)) (65 ∷ 0 ∷ [])
    -- readings above the limit count as 0 0 0 with sets too
    ∷ row (told (history_answers (sums 0 36_000_000_000_000_001 0) (Called.set (frames 0) ∷ one (alive 0) ∷ []))) (1 ∷ 0 ∷ 0 ∷ [])
    ∷ row (length (history_offers (sums 0 36_000_000_000_000_001 0) (Called.set (frames 0) ∷ [])) ∷ []) (1 ∷ [])
    -- what stands after a set: a frame is gathered or not, and the points
    ∷ row (each_of (frames 0 ∷ frames 1 ∷ alive 0 ∷ (frames 0 ++ alive 1) ∷ []) (λ (octets : List ℕ). bit (standing_by_set octets gathers).gathering.is_on ∷ (standing_by_set octets gathers).sums.points ∷ []))
    (0 ∷ 2 ∷ 1 ∷ 2 ∷ 1 ∷ 2 ∷ 1 ∷ 2 ∷ [])
    ∷ []

pub set-pins : Agrees set_table
unfolding set_table place_of colour_of lit_among rows_of lit_in defined_group is_single reserved_space known_tag slot_for misplaced repeated tag_number role_for sample_with allowed_after read step walked incomplete end_number dictionary_number dictionary_sample overlaps_any bad_dimmer_tag clashing_tag dimmer_tag_number mapping_with read_dimmer step_dimmer dimmed dimmer_number dimmer_mapping count_sum levels_fit mapped_sum levels_written tags_of data_of meant header_number tags_number routing_number route_number held_elsewhere holder_number closed_number governs points_of lit_points_of levels_of whole_of sequel_number match_number room_number draw_number dim_number content_number added_by meter_number whole_number in_order number_of reply_of sums_after governing_after gathering_after lookback gathering_by worked_out judged answer_by answers_by offers_by entry_of messages_in left_in parts_in member_number standing_after replied_from standing_behind consistent_at consistent_up_to consistent fresh_channels sizes_fit configuration_of
set-pins = refl
