-- What a tag does that document 01 does not know (document 02, C-16) as a table: what the definitions give for some words of each group, and
-- for every word whether a precision may stand behind it and whether it may stand behind a prefix; and what the paper says. Which words are
-- known, which give 9 still and which skip others is in TagPins.antt.
use Rattle.std.specs.Prelude.{refl, ℕ, List, [], ◌∷◌, ◌++◌, map, replicate}
use Rattle.samples.specs.Table.{Row, row, Agrees, span, each, not_refused_by}
use Rattle.samples.specs.Roles.{place_of}
use Rattle.tags.specs.Tag.{defined_group, is_single, reserved_space, known_tag, slot_for}
use Rattle.tags.specs.Dictionary.{misplaced, repeated, tag_number, role_for, sample_with, allowed_after, read, step, walked, incomplete, end_number, dictionary_number, dictionary_sample, host_number, host_check}
use Rattle.tags.specs.TagPins.{octets_of, refusal_of, answer_to, least}

-- ---- what the rows are made of

-- the words of the groups of categories 4 and 5 in which some are unknown
mixed_words : List ℕ
mixed_words = span 0x4000 768 ++ span 0x5C00 256

-- unknown words with an octet: "X, Y and Z with parameters beyond those of 01 are unknown too", and so is every other word of 4.0, 4.1, 4.2
-- and 5.12 that document 01's list does not have, but 4102 to 410F
octet_words : List ℕ
octet_words = 0x4001 ∷ 0x4011 ∷ 0x40FF ∷ 0x4110 ∷ 0x41FF ∷ 0x4202 ∷ 0x4212 ∷ 0x4221 ∷ 0x4230 ∷ 0x42FF ∷ 0x5C01 ∷ 0x5C11 ∷ 0x5C21 ∷ 0x5CFF ∷ []

-- unknown words of 1.0, and of 0.0 such that skip nothing
plain_words : List ℕ
plain_words = 0x1010 ∷ 0x10FF ∷ 0x0010 ∷ 0x00F0 ∷ []

unknown_words : List ℕ
unknown_words = octet_words ++ plain_words

-- what a dictionary says: the roles, then the wavelengths, then the space modifier's word
said_by : List ℕ → List ℕ
said_by ws = let s = dictionary_sample 1 (octets_of ws) in s.roles ++ s.waves ++ (s.space ∷ [])

-- ---- the table

pub unknown_table : List (Row ℕ)
unknown_table =
    -- "In case h, 4230 alone now gives 12", and so does each of the others
    row (map (λ w. refusal_of 2 (w ∷ [])) unknown_words) (replicate 18 12)
    -- "In categories 4 and 5 its octet is ignored": the signals X, Y and the colour have the roles 1, 2 and 9, the unknown octet 0; the
    -- wavelength and the space modifier are there as without it
    ∷ row (each octet_words (λ w. said_by (0x4200 ∷ w ∷ 0x4210 ∷ 0x1155 ∷ 0x527E ∷ [])))
    (each octet_words (λ w. 1 ∷ 0 ∷ 2 ∷ 9 ∷ 0x27E ∷ 0x1155 ∷ []))
    -- ".. as is that of one precision tag directly behind it": it is not that of X before them
    ∷ row (each octet_words (λ w. said_by (0x4200 ∷ w ∷ 0x4010 ∷ 0x4210 ∷ 0x527E ∷ [])))
    (each octet_words (λ w. 1 ∷ 0 ∷ 0 ∷ 2 ∷ 9 ∷ 0x27E ∷ 0 ∷ []))
    -- a precision stands behind each of these words: all but NOP, precision, hints and prefix
    ∷ row (not_refused_by (8 ∷ 9 ∷ 10 ∷ []) (λ w. refusal_of 1 (w ∷ 0x4010 ∷ [])) mixed_words)
    (span 0x4001 15 ++ span 0x4011 239 ++ span 0x4110 240 ++ span 0x4200 256 ++ span 0x5C01 255)
    -- "one": a second is misplaced
    ∷ row (map (λ w. refusal_of 1 (w ∷ 0x4010 ∷ 0x4010 ∷ [])) octet_words) (replicate 14 10)
    -- "directly": not with something between
    ∷ row (map (λ v. refusal_of 1 (0x4230 ∷ v ∷ 0x4010 ∷ [])) (0x0000 ∷ 0x1155 ∷ 0x4000 ∷ 0x4100 ∷ plain_words)) (replicate 8 10)
    -- "In 1.0 nothing more happens", nor in 0.0 where nothing is skipped: no octet, and no precision behind it, not that of X either
    ∷ row (each plain_words (λ w. said_by (0x4200 ∷ w ∷ 0x4210 ∷ 0x527E ∷ []))) (each plain_words (λ w. 1 ∷ 2 ∷ 9 ∷ 0x27E ∷ 0 ∷ []))
    ∷ row (map (λ w. refusal_of 1 (0x4200 ∷ w ∷ 0x4010 ∷ [])) plain_words) (replicate 4 10)
    -- "A prefix with its precision, if any, is followed directly by 5000": each word of these groups, or an unknown one that has no octet, is 9 or
    -- 10 there, at the tag itself and not at one further on; and no unknown tag stands for a prefix
    ∷ row (not_refused_by (9 ∷ 10 ∷ []) (λ w. refusal_of 1 (0x5C00 ∷ 0x4010 ∷ w ∷ 0x3000 ∷ [])) (mixed_words ++ plain_words)) []
    ∷ row (map (λ w. refusal_of 1 (0x5C00 ∷ w ∷ 0x3000 ∷ [])) unknown_words) (replicate 18 10)
    ∷ row (map (λ w. refusal_of 1 (w ∷ 0x5000 ∷ [])) unknown_words) (replicate 18 10)
    -- an unknown tag is none of the mandatory ones
    ∷ row (map (refusal_of 2) ((0x4202 ∷ 0x4210 ∷ 0x527E ∷ []) ∷ (0x4200 ∷ 0x4212 ∷ 0x527E ∷ []) ∷ (0x4200 ∷ 0x4210 ∷ 0x5C30 ∷ []) ∷ []))
    (12 ∷ 12 ∷ 12 ∷ [])
    -- "The width .. includes ignored octets", which may repeat up to the 32nd: the width, or 100 plus the refusal
    ∷ row (each (0x4001 ∷ 0x5C30 ∷ []) (λ w. map (λ n. answer_to 2 (least ++ replicate n w)) (1 ∷ 2 ∷ 29 ∷ 30 ∷ [])))
    (4 ∷ 5 ∷ 32 ∷ 111 ∷ 4 ∷ 5 ∷ 32 ∷ 111 ∷ [])
    ∷ row (map (λ n. answer_to 1 (least ++ replicate n 0x4000 ++ (0x4230 ∷ 0x4010 ∷ []))) (0 ∷ 27 ∷ 28 ∷ 29 ∷ [])) (5 ∷ 32 ∷ 111 ∷ 111 ∷ [])
    -- no limit for those without an octet
    ∷ row (map (λ w. answer_to 1 (replicate 40 w ++ least)) plain_words) (3 ∷ 3 ∷ 3 ∷ 3 ∷ [])
    ∷ []

pub unknown_pins : Agrees unknown_table
unfolding refusal_of answer_to mixed_words octet_words plain_words unknown_words said_by unknown_table place_of defined_group is_single reserved_space known_tag slot_for misplaced repeated tag_number role_for sample_with allowed_after read step walked incomplete end_number dictionary_number dictionary_sample host_number host_check
unknown_pins = refl
