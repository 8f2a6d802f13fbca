-- The numbers of document 01's "Dimmer tags, modes 4 and 6" and of checks 13, 14 and 21 as a table: what the definitions give, and what
-- the paper says.
use Rattle.std.specs.Prelude.{refl, ℕ, suc, ◌/◌, ◌%◌, cond, List, [], ◌∷◌, ◌++◌, map, replicate, eqb}
use Rattle.samples.specs.Table.{Row, row, Agrees, span, each, passing, refused_by, not_refused_by}
use Rattle.tags.specs.Dimmer.{overlaps_any, bad_dimmer_tag, clashing_tag, dimmer_tag_number, mapping_with, read_dimmer, step_dimmer, dimmed, dimmer_number, dimmer_mapping, all_in_range}
use Rattle.tags.specs.Levels.{count_sum, levels_fit, put_levels, put_subsets, levels_after, mapped_sum, levels_written, levels_counted, host_written}

-- ---- what the rows are made of

-- 42 with a base; 43 with a base and a count
whole : ℕ → List ℕ
whole base = 0x42 ∷ base / 256 ∷ base % 256 ∷ []

subset : ℕ → ℕ → List ℕ
subset base count = 0x43 ∷ base / 256 ∷ base % 256 ∷ count ∷ []

-- the numbers whose tags are accepted, and those that are refused by 14
accepted : (ℕ → List ℕ) → List ℕ → List ℕ
accepted tags = not_refused_by (13 ∷ 14 ∷ []) (λ n. dimmer_number (tags n))

clashing : (ℕ → List ℕ) → List ℕ → List ℕ
clashing tags = refused_by (14 ∷ []) (λ n. dimmer_number (tags n))

-- how many levels check 21 lets pass
fitting : List ℕ → List ℕ → List ℕ
fitting tags = let m = dimmer_mapping tags in passing (levels_fit m)

-- the places that hold a level after `octets` were written over 1,024 zeros, each with its level
placed : ℕ → List ℕ → List ℕ
placed k [] = []
placed k (v ∷ vs) = cond (eqb v 0) [] (k ∷ v ∷ []) ++ placed (suc k) vs

written : ℕ → List ℕ → List ℕ → List ℕ
written mode tags octets = let m = dimmer_mapping tags in placed 0 (levels_after mode m octets (replicate 1024 0))

count : List ℕ → ℕ → ℕ
count tags n = levels_written (dimmer_mapping tags) n

-- ---- the table

pub dimmer_table : List (Row ℕ)
dimmer_table =
    -- "0n skips n octets; 42 then a two-octet base; 43 then base and a one-octet count", and no other tag
    row (accepted (λ t. t ∷ 0x00 ∷ 0x01 ∷ 0x01 ∷ replicate 12 0) (span 0 256)) (span 0 16 ++ (0x42 ∷ 0x43 ∷ []))
    ∷ row (accepted (λ n. n ∷ replicate 5 0xFF) (span 0 16)) (5 ∷ [])
    ∷ row (accepted (λ n. n ∷ replicate 5 0x00) (span 0 16)) (span 0 6)
    ∷ row (map dimmer_number ((0x42 ∷ []) ∷ (0x42 ∷ 0 ∷ []) ∷ (0x42 ∷ 0 ∷ 1 ∷ []) ∷ [])) (13 ∷ 13 ∷ 0 ∷ [])
    ∷ row (map dimmer_number ((0x43 ∷ 0 ∷ 1 ∷ []) ∷ (0x43 ∷ 0 ∷ 1 ∷ 1 ∷ []) ∷ [])) (13 ∷ 0 ∷ [])
    -- "Base is 1 to 512, or FFFF"
    ∷ row (accepted whole (span 0 600 ++ span 0xFFF0 16)) (span 1 512 ++ (0xFFFF ∷ []))
    ∷ row (accepted (λ b. subset b 1) (span 0 600 ++ span 0xFFF0 16)) (span 1 512 ++ (0xFFFF ∷ []))
    -- "Count is 1 to 255; base + count is at most 513 unless base is FFFF"
    ∷ row (accepted (subset 1) (span 0 256)) (span 1 255)
    ∷ row (accepted (subset 258) (span 0 256)) (span 1 255)
    ∷ row (accepted (subset 259) (span 0 256)) (span 1 254)
    ∷ row (accepted (subset 510) (span 0 256)) (1 ∷ 2 ∷ 3 ∷ [])
    ∷ row (accepted (subset 0xFFFF) (span 0 256)) (span 1 255)
    -- "One 42 at most, never with a 43"; "at most 32 of 43", dropped ones too
    ∷ row (map dimmer_number ((whole 1 ++ whole 1) ∷ (whole 1 ++ subset 2 1) ∷ (subset 2 1 ++ whole 1) ∷ (subset 2 1 ++ subset 3 1) ∷ []))
    (14 ∷ 14 ∷ 14 ∷ 0 ∷ [])
    ∷ row (map (λ n. dimmer_number (each (span 1 n) (λ b. subset b 1))) (31 ∷ 32 ∷ 33 ∷ [])) (0 ∷ 0 ∷ 14 ∷ [])
    ∷ row (map (λ n. dimmer_number (each (span 1 n) (λ b. subset 0xFFFF 1))) (32 ∷ 33 ∷ [])) (0 ∷ 14 ∷ [])
    -- "At each tag 8 to 11 are tried in turn (or 13, 14), then the next tag": 13 before 14 at one tag, and the first tag refused has the number
    ∷ row (map dimmer_number ((whole 1 ++ subset 2 0) ∷ (whole 1 ++ whole 1 ++ (0x44 ∷ [])) ∷ (0x44 ∷ whole 1 ++ whole 1) ∷ []))
    (13 ∷ 14 ∷ 13 ∷ [])
    -- "mapped ranges are disjoint": three levels beside 10 to 14
    ∷ row (clashing (λ b. subset 10 5 ++ subset b 3) (span 1 30)) (span 8 7)
    ∷ row (map dimmer_number ((subset 0xFFFF 5 ++ subset 0xFFFF 5) ∷ (subset 10 5 ++ subset 0xFFFF 5) ∷ [])) (0 ∷ 0 ∷ [])
    -- "Level number b is place b - 1 of the lent levels for mode 4, place 511 + b for mode 6"
    ∷ row (each (1 ∷ 2 ∷ 511 ∷ 512 ∷ []) (λ b. written 4 (whole b) (7 ∷ []))) (0 ∷ 7 ∷ 1 ∷ 7 ∷ 510 ∷ 7 ∷ 511 ∷ 7 ∷ [])
    ∷ row (each (1 ∷ 2 ∷ 511 ∷ 512 ∷ []) (λ b. written 6 (whole b) (7 ∷ []))) (512 ∷ 7 ∷ 513 ∷ 7 ∷ 1022 ∷ 7 ∷ 1023 ∷ 7 ∷ [])
    -- "With neither 42 nor 43 the base is 1"; "FFFF, which drops the octets; dropped ones don't count as written"
    ∷ row (written 4 [] (7 ∷ 8 ∷ []) ++ written 6 (0x00 ∷ []) (7 ∷ 8 ∷ [])) (0 ∷ 7 ∷ 1 ∷ 8 ∷ 512 ∷ 7 ∷ 513 ∷ 8 ∷ [])
    ∷ row (written 4 (whole 0xFFFF) (7 ∷ 8 ∷ []) ++ (count (whole 0xFFFF) 2 ∷ count (whole 5) 2 ∷ count [] 2 ∷ [])) (0 ∷ 2 ∷ 2 ∷ [])
    ∷ row (written 4 (subset 100 2 ++ subset 0xFFFF 1 ++ subset 10 1) (5 ∷ 6 ∷ 7 ∷ 8 ∷ [])) (9 ∷ 8 ∷ 99 ∷ 5 ∷ 100 ∷ 6 ∷ [])
    ∷ row (count (subset 100 2 ++ subset 0xFFFF 1 ++ subset 10 1) 4 ∷ []) (3 ∷ [])
    -- 21. "With 43, levels differ from the sum of all counts, dropped ones included; without 43, base + levels passes 513 (FFFF excepted)"
    ∷ row (fitting (subset 100 2 ++ subset 0xFFFF 255 ++ subset 10 1) (span 0 300)) (258 ∷ [])
    ∷ row (fitting [] (span 0 600)) (span 0 513)
    ∷ row (fitting (whole 510) (span 0 600)) (0 ∷ 1 ∷ 2 ∷ 3 ∷ [])
    ∷ row (fitting (whole 512) (span 0 600)) (0 ∷ 1 ∷ [])
    ∷ row (fitting (whole 0xFFFF) (span 0 600)) (span 0 600)
    -- 22. "the levels slice is under 1,024 octets", for a host that writes levels itself
    ∷ row (map (λ lent. host_written (dimmer_mapping []) 2 lent) (0 ∷ 1023 ∷ 1024 ∷ 1025 ∷ [])) (0 ∷ 0 ∷ 2 ∷ 2 ∷ [])
    ∷ []

pub dimmer_pins : Agrees dimmer_table
unfolding whole subset accepted clashing fitting placed written count dimmer_table overlaps_any bad_dimmer_tag clashing_tag dimmer_tag_number mapping_with read_dimmer step_dimmer dimmed dimmer_number dimmer_mapping all_in_range count_sum levels_fit put_levels put_subsets levels_after mapped_sum levels_written levels_counted host_written
dimmer_pins = refl
