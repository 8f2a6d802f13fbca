-- The numbers of document 01's "Tag dictionary", of checks 8 to 12 and of the host's call of the dictionary check ("Calls and layers")
-- as a table: what the definitions give, and what the paper says. A definition and its code that were changed alike are refused here.
-- Of C-16 it has which words are known, which give 9 and how many words a tag skips; what else an unknown tag does is in UnknownPins.antt.
use Rattle.std.specs.Prelude.{refl, ℕ, ◌+◌, ◌*◌, ◌/◌, ◌%◌, List, [], ◌∷◌, ◌++◌, map, replicate}
use Rattle.samples.specs.Table.{Row, row, Agrees, span, each, passing, refused_by, not_refused_by}
use Rattle.samples.specs.Roles.{place_of}
use Rattle.tags.specs.Tag.{takes_octet, defined_group, is_single, reserved_space, known_tag, slot_for}
use Rattle.tags.specs.Dictionary.{misplaced, repeated, tag_number, role_for, sample_with, allowed_after, read, step, walked, incomplete, end_number, dictionary_number, dictionary_sample, host_number, host_check}

-- ---- what the rows are made of

-- words as octets
abbrev pub octets_of : List ℕ → List ℕ
octets_of [] = []
octets_of (w ∷ ws) = w / 256 ∷ w % 256 ∷ octets_of ws

-- the number of a dictionary of these words, and what the host's call returns for it
unfoldable pub refusal_of : ℕ → List ℕ → ℕ
refusal_of mode ws = dictionary_number mode (octets_of ws)

unfoldable pub answer_to : ℕ → List ℕ → ℕ
answer_to mode ws = host_check mode (octets_of ws)

-- the words of the groups defined, but those of 0.0
group_words : List ℕ
group_words = span 0x1000 512 ++ span 0x4000 768 ++ span 0x5000 1024 ++ span 0x5C00 256

-- the tags known but Void, for colours and space modifiers a few of each
tags : List ℕ
tags =
    0x1100 ∷ 0x1155 ∷ 0x11FF ∷ 0x4000 ∷ 0x4010 ∷ 0x4100 ∷ 0x4101 ∷ 0x4200 ∷ 0x4201 ∷ 0x4210 ∷ 0x4211 ∷ 0x4220 ∷ 0x5000 ∷ 0x5001
    ∷ 0x527E ∷ 0x53FF ∷ 0x5C00 ∷ 0x5C10 ∷ 0x5C20 ∷ []

-- 11pp: "binary 10 is reserved in GLIN, CBAL and CTIM"
space_words : List ℕ
space_words =
    each (0 ∷ 1 ∷ 3 ∷ []) (λ glin. each (0 ∷ 1 ∷ 2 ∷ 3 ∷ []) (λ clin. each (0 ∷ 1 ∷ 3 ∷ []) (λ cbal.
    map (λ ctim. 0x1100 + glin * 64 + clin * 16 + cbal * 4 + ctim) (0 ∷ 1 ∷ 3 ∷ []))))

-- X, Y and one colour
abbrev pub least : List ℕ
least = 0x4200 ∷ 0x4210 ∷ 0x527E ∷ []

-- what can stand between two signals and is none itself: Void, Void with a word that it skips, NOP, hint, space modifier
between : List (List ℕ)
between = (0x0000 ∷ []) ∷ (0x0001 ∷ 0x3000 ∷ []) ∷ (0x4000 ∷ []) ∷ (0x4100 ∷ []) ∷ (0x1155 ∷ []) ∷ []

-- ---- the table

pub tag_table : List (Row ℕ)
tag_table =
    -- "Which of the sixteen categories take an octet ..: 4 and 5 do"
    row (passing (λ c. takes_octet (c * 4096)) (span 0 16)) (4 ∷ 5 ∷ [])
    -- "Groups defined (category.subcategory): 0.0, 1.0, 1.1, 4.0, 4.1, 4.2, 5.0 to 5.3, 5.12", by the first word and by the last of each
    ∷ row (not_refused_by (8 ∷ []) (λ g. refusal_of 1 (g * 256 ∷ [])) (span 0 256))
    (0x00 ∷ 0x10 ∷ 0x11 ∷ 0x40 ∷ 0x41 ∷ 0x42 ∷ 0x50 ∷ 0x51 ∷ 0x52 ∷ 0x53 ∷ 0x5C ∷ [])
    ∷ row (not_refused_by (8 ∷ []) (λ g. refusal_of 2 ((g * 256 + 255) ∷ [])) (span 0 256))
    (0x00 ∷ 0x10 ∷ 0x11 ∷ 0x40 ∷ 0x41 ∷ 0x42 ∷ 0x50 ∷ 0x51 ∷ 0x52 ∷ 0x53 ∷ 0x5C ∷ [])
    -- "Tags known, in hexadecimal", and no other word
    ∷ row (passing known_tag (span 0 256 ++ group_words))
    (span 0 16 ++ span 0x1100 256 ++ (0x4000 ∷ 0x4010 ∷ 0x4100 ∷ 0x4101 ∷ 0x4200 ∷ 0x4201 ∷ 0x4210 ∷ 0x4211 ∷ 0x4220 ∷ []) ++ span 0x5000 1024
    ++ (0x5C00 ∷ 0x5C10 ∷ 0x5C20 ∷ []))
    -- C-16: "Break, hint formats beyond 1, hint 1 in mode 2 and reserved space values still give 9", and no other word of a group
    ∷ row (not_refused_by (8 ∷ 9 ∷ []) (λ w. refusal_of 1 (w ∷ [])) (span 0 256)) (span 0 256)
    ∷ row (not_refused_by (8 ∷ 9 ∷ []) (λ w. refusal_of 1 (w ∷ [])) group_words)
    (span 0x1010 240 ++ space_words ++ span 0x4000 256 ++ (0x4100 ∷ 0x4101 ∷ []) ++ span 0x4110 240 ++ span 0x4200 256 ++ span 0x5000 1024
    ++ span 0x5C00 256)
    ∷ row (not_refused_by (8 ∷ 9 ∷ []) (λ w. refusal_of 2 (w ∷ [])) group_words)
    (span 0x1010 240 ++ space_words ++ span 0x4000 256 ++ (0x4100 ∷ []) ++ span 0x4110 240 ++ span 0x4200 256 ++ span 0x5000 1024
    ++ span 0x5C00 256)
    -- "the next n words are skipped unread", here of five that are in no group; "a Void passes the end"; C-16: "In group 0.0 its parameter
    -- gives the words to skip", "Skips past the end give 10", whatever the identifier
    ∷ row (each (span 0 16) (λ i. map (λ n. refusal_of 1 (least ++ ((i * 16 + n) ∷ replicate 5 0x3000))) (span 0 16)))
    (each (span 0 16) (λ i. replicate 5 8 ++ (0 ∷ []) ++ replicate 10 10))
    ∷ row (map (λ n. refusal_of 2 (least ++ (n ∷ replicate 15 0x3000))) (span 0 16 ++ span 0xF0 16))
    (replicate 15 8 ++ (0 ∷ []) ++ replicate 15 8 ++ (0 ∷ []))
    -- "Precision stands directly after X, Y, Z, second X or Y, colour, intensity, brush or prefix, once"
    ∷ row (not_refused_by (8 ∷ 9 ∷ 10 ∷ []) (λ w. refusal_of 1 (w ∷ 0x4010 ∷ [])) tags)
    (0x4200 ∷ 0x4201 ∷ 0x4210 ∷ 0x4211 ∷ 0x4220 ∷ 0x5001 ∷ 0x527E ∷ 0x53FF ∷ 0x5C10 ∷ 0x5C20 ∷ [])
    ∷ row (not_refused_by (8 ∷ 9 ∷ 10 ∷ []) (λ w. refusal_of 1 (w ∷ 0x4010 ∷ 0x5000 ∷ [])) tags) (0x5C00 ∷ [])
    ∷ row (not_refused_by (8 ∷ 9 ∷ 10 ∷ []) (λ w. refusal_of 1 (w ∷ 0x4010 ∷ 0x4010 ∷ [])) tags) []
    -- "directly after X, ..": not with something between
    ∷ row (map (λ ws. refusal_of 1 (0x4200 ∷ ws ++ (0x4010 ∷ []))) between) (replicate 5 10)
    -- "A prefix with its precision, if any, is followed directly by 5000, and 5000 stands nowhere else"
    ∷ row (not_refused_by (8 ∷ 9 ∷ 10 ∷ []) (λ w. refusal_of 1 (0x5C00 ∷ w ∷ [])) tags) (0x5000 ∷ [])
    ∷ row (not_refused_by (8 ∷ 9 ∷ 10 ∷ []) (λ w. refusal_of 1 (0x5C00 ∷ 0x4010 ∷ w ∷ [])) tags) (0x5000 ∷ [])
    ∷ row (not_refused_by (8 ∷ 9 ∷ 10 ∷ []) (λ w. refusal_of 1 (w ∷ 0x5000 ∷ [])) tags) (0x5C00 ∷ [])
    -- "followed directly by 5000": not with something between, nor between its precision and 5000
    ∷ row (map (λ ws. refusal_of 1 (0x5C00 ∷ ws ++ (0x5000 ∷ []))) between) (replicate 5 10)
    ∷ row (map (λ ws. refusal_of 1 (0x5C00 ∷ 0x4010 ∷ ws ++ (0x5000 ∷ []))) between) (replicate 5 10)
    -- "a prefix followed wrongly is 10 at the tag behind it, after 8 and 9 there", and not at a tag further on
    ∷ row (map (λ ws. refusal_of 1 (0x5C00 ∷ ws)) ((0x3000 ∷ []) ∷ (0x1000 ∷ []) ∷ (0x527E ∷ []) ∷ (0x527E ∷ 0x3000 ∷ []) ∷ []))
    (8 ∷ 9 ∷ 10 ∷ 10 ∷ [])
    -- "At the end an unfinished prefix is 10, then 12"
    ∷ row (map (refusal_of 1) ((0x5C00 ∷ []) ∷ (least ++ (0x5C00 ∷ [])) ∷ (least ++ (0x5C00 ∷ 0x4010 ∷ [])) ∷ [])) (10 ∷ 10 ∷ 10 ∷ [])
    -- "At each tag 8 to 11 are tried in turn": 9 before 11, a hint or a reserved space value that repeats; 10 before 11, a second X after a
    -- prefix, a 9th colour 5000 without one, a precision that is the 33rd octet
    ∷ row (map (refusal_of 2) ((0x4100 ∷ 0x4101 ∷ []) ∷ (0x1100 ∷ 0x1102 ∷ []) ∷ [])) (9 ∷ 9 ∷ [])
    ∷ row (map (refusal_of 1) ((0x4200 ∷ 0x5C00 ∷ 0x4200 ∷ []) ∷ (replicate 8 0x527E ++ (0x5000 ∷ [])) ∷ (replicate 32 0x4000 ++ (0x4010 ∷ [])) ∷ []))
    (10 ∷ 10 ∷ 10 ∷ [])
    -- ".. then the next tag": the first tag refused has the number
    ∷ row (map (refusal_of 1) ((0x4010 ∷ 0x3000 ∷ []) ∷ (0x3000 ∷ 0x4010 ∷ []) ∷ (0x1000 ∷ 0x3000 ∷ []) ∷ (0x4200 ∷ 0x4200 ∷ 0x3000 ∷ []) ∷ []))
    (10 ∷ 8 ∷ 9 ∷ 11 ∷ [])
    -- "each other signal, one hint of either format and the space modifier at most once. NOP, Void and colours .. may repeat"
    ∷ row (refused_by (11 ∷ []) (λ w. refusal_of 1 (w ∷ w ∷ [])) (span 0 16 ++ tags))
    (0x1100 ∷ 0x1155 ∷ 0x11FF ∷ 0x4100 ∷ 0x4101 ∷ 0x4200 ∷ 0x4201 ∷ 0x4210 ∷ 0x4211 ∷ 0x4220 ∷ 0x5C10 ∷ 0x5C20 ∷ [])
    ∷ row (refused_by (11 ∷ []) (λ w. refusal_of 1 (0x4101 ∷ w ∷ [])) tags) (0x4100 ∷ 0x4101 ∷ [])
    ∷ row (refused_by (11 ∷ []) (λ w. refusal_of 1 (0x4100 ∷ w ∷ [])) tags) (0x4100 ∷ 0x4101 ∷ [])
    ∷ row (refused_by (11 ∷ []) (λ w. refusal_of 1 (0x11FF ∷ w ∷ [])) tags) (0x1100 ∷ 0x1155 ∷ 0x11FF ∷ [])
    -- "At most 32 octets a sample and 8 colours": the width, or 100 plus the refusal
    ∷ row (map (λ n. answer_to 1 (least ++ replicate n 0x4000)) (0 ∷ 1 ∷ 28 ∷ 29 ∷ 30 ∷ 31 ∷ [])) (3 ∷ 4 ∷ 31 ∷ 32 ∷ 111 ∷ 111 ∷ [])
    ∷ row (map (λ n. answer_to 2 (least ++ replicate n 0x527E)) (0 ∷ 1 ∷ 6 ∷ 7 ∷ 8 ∷ 9 ∷ [])) (3 ∷ 4 ∷ 9 ∷ 10 ∷ 111 ∷ 111 ∷ [])
    -- "33rd octet", whatever it is for: each tag after 32 octets of which the last is X; 5000 there is 10, but after a prefix 11
    ∷ row (refused_by (11 ∷ []) (λ w. refusal_of 1 (replicate 31 0x4000 ++ (0x4200 ∷ w ∷ []))) tags)
    (0x4000 ∷ 0x4010 ∷ 0x4100 ∷ 0x4101 ∷ 0x4200 ∷ 0x4201 ∷ 0x4210 ∷ 0x4211 ∷ 0x4220 ∷ 0x5001 ∷ 0x527E ∷ 0x53FF ∷ 0x5C00 ∷ 0x5C10 ∷ 0x5C20 ∷ [])
    ∷ row (refusal_of 1 (replicate 31 0x4000 ++ (0x5C00 ∷ 0x5000 ∷ [])) ∷ []) (11 ∷ [])
    -- "9th colour": a prefix after eight colours is none yet
    ∷ row (map (λ ws. refusal_of 1 (replicate 8 0x527E ++ (0x5C00 ∷ ws))) ([] ∷ (0x5000 ∷ []) ∷ (0x3000 ∷ []) ∷ [])) (10 ∷ 11 ∷ 8 ∷ [])
    -- 12. "X (4200), Y (4210) or every colour is missing"
    ∷ row (map (refusal_of 2) (least ∷ (0x4210 ∷ 0x527E ∷ []) ∷ (0x4200 ∷ 0x527E ∷ []) ∷ (0x4200 ∷ 0x4210 ∷ []) ∷ [] ∷ []))
    (0 ∷ 12 ∷ 12 ∷ 12 ∷ 12 ∷ [])
    -- the host's call: "6 for modes but 1 and 2, then 5 for odd lengths or above 1,020, else 8 to 12"
    ∷ row (not_refused_by (106 ∷ []) (λ mode. host_check mode (0 ∷ [])) (span 0 256)) (1 ∷ 2 ∷ [])
    ∷ row (map (λ mode. host_check mode (0 ∷ [])) (0 ∷ 1 ∷ 2 ∷ 3 ∷ 4 ∷ 6 ∷ [])) (106 ∷ 105 ∷ 105 ∷ 106 ∷ 106 ∷ 106 ∷ [])
    ∷ row (map (λ n. host_check 1 (replicate n 0x30)) (1 ∷ 2 ∷ 3 ∷ 1019 ∷ 1020 ∷ 1021 ∷ 1022 ∷ []))
    (105 ∷ 108 ∷ 105 ∷ 105 ∷ 108 ∷ 105 ∷ 105 ∷ [])
    ∷ row (map (λ w. answer_to 2 (w ∷ [])) (0x3000 ∷ 0x1000 ∷ 0x4010 ∷ 0x527E ∷ [])) (108 ∷ 109 ∷ 110 ∷ 112 ∷ [])
    ∷ []

pub tag_pins : Agrees tag_table
unfolding refusal_of answer_to group_words tags space_words between tag_table place_of defined_group is_single reserved_space known_tag slot_for misplaced repeated tag_number role_for sample_with allowed_after read step walked incomplete end_number dictionary_number dictionary_sample host_number host_check
tag_pins = refl
