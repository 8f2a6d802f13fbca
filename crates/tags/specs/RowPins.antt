-- The numbers of document 01's "One row" as a table: what the definitions give for a sample by a dictionary, and what the paper says.
use Rattle.std.specs.Prelude.{refl, ℕ, zero, suc, ◌-◌, cond, List, [], ◌∷◌, ◌++◌, map, replicate, ℤ, pos, negsuc}
use Rattle.samples.specs.Table.{Row, row, Agrees, span, each}
use Rattle.samples.specs.Roles.{place_of}
use Rattle.samples.specs.Row.{colour_of, intensity_of, wave_of, slot_of, slots_of, row_of, lit_among, lit_of}
use Rattle.tags.specs.Tag.{defined_group, is_single, reserved_space, known_tag, slot_for}
use Rattle.tags.specs.Dictionary.{misplaced, repeated, tag_number, role_for, sample_with, allowed_after, read, step, walked, incomplete, end_number, dictionary_number, dictionary_sample}
use Rattle.tags.specs.TagPins.{octets_of, least}

-- ---- what the rows are made of

-- by the dictionary of these words: the row of a sample, one slot of several samples, and which of the points are lit
row_by : ℕ → List ℕ → List ℕ → List ℤ
row_by mode ws sample = let d = dictionary_sample mode (octets_of ws) in row_of d.roles d.waves sample

slot_by : ℕ → ℕ → List ℕ → List (List ℕ) → List ℤ
slot_by s mode ws samples =
    let d = dictionary_sample mode (octets_of ws) in map (λ sample. slot_of d.roles d.waves sample s) samples

lit_by : List ℕ → List (List ℕ) → List ℤ
lit_by ws samples =
    let d = dictionary_sample 1 (octets_of ws) in map (λ sample. cond (lit_of d.roles sample) (pos 1) (pos 0)) samples

times : ℕ → List ℤ → List ℤ
times zero xs = []
times (suc n) xs = xs ++ times n xs

-- every signal with precision, format 1 of the hint, eight colours of which the first has a prefix
everything : List ℕ
everything =
    0x4200 ∷ 0x4010 ∷ 0x4210 ∷ 0x4010 ∷ 0x4220 ∷ 0x4010 ∷ 0x4201 ∷ 0x4010 ∷ 0x4211 ∷ 0x4010 ∷ 0x5C10 ∷ 0x4010 ∷ 0x5C20 ∷ 0x4010 ∷ 0x4101
    ∷ 0x5C00 ∷ 0x4010 ∷ 0x5000 ∷ 0x4010 ∷ 0x5001 ∷ 0x5100 ∷ 0x51CC ∷ 0x5214 ∷ 0x527E ∷ 0x5300 ∷ 0x53FF ∷ []

-- X 0102, Y FF01, Z 8000, second X FFFE, second Y 8001, intensity 1007, brush FF06, hint with c = 2, i = 1 and bit 7 of 0, wavelength
-- 8501, colour 123F, then seven colours of one octet
sample : List ℕ
sample =
    0x01 ∷ 0x02 ∷ 0xFF ∷ 0x01 ∷ 0x80 ∷ 0x00 ∷ 0xFF ∷ 0xFE ∷ 0x80 ∷ 0x01 ∷ 0x10 ∷ 0x07 ∷ 0xFF ∷ 0x06 ∷ 0x90 ∷ 0x85 ∷ 0x01 ∷ 0x12 ∷ 0x3F
    ∷ 0x01 ∷ 0x02 ∷ 0x04 ∷ 0x08 ∷ 0x10 ∷ 0x20 ∷ 0xFF ∷ []

-- X, Y and eight colours, each with a prefix; all but the first have both precisions, and so there are 32 octets
prefixes : List ℕ
prefixes = 0x4200 ∷ 0x4210 ∷ 0x5C00 ∷ 0x5000 ∷ each (span 0 7) (λ k. 0x5C00 ∷ 0x4010 ∷ 0x5000 ∷ 0x4010 ∷ [])

-- X, Y, a colour, intensity and the hint, after the signals and before them
hint_last : List ℕ
hint_last = 0x4200 ∷ 0x4210 ∷ 0x527E ∷ 0x5C10 ∷ 0x4100 ∷ []

hint_first : List ℕ
hint_first = 0x4101 ∷ 0x4200 ∷ 0x4210 ∷ 0x527E ∷ 0x5C10 ∷ []

eight : List ℕ
eight = 0x4200 ∷ 0x4210 ∷ 0x5C10 ∷ 0x4101 ∷ replicate 8 0x527E

z : ℤ
z = pos 0

-- ---- the table

pub row_table : List (Row ℤ)
row_table =
    -- "A point is 24 signed 32-bit numbers .. Slots: 0 X, 1 Y, 2 Z, 3 second X, 4 second Y, 5 shutter, 6 intensity, 7 brush, 8-15 colours in
    -- dictionary order, 16-23 their wavelengths in 1/64 nm"; "in coordinates the first octet is signed", in brush FF 06 and wavelength 85 01 it is
    -- not; "rounded down": intensity 10 07 by 4, colour 12 3F by 16
    row (row_by 1 everything sample)
    (pos 258 ∷ negsuc 254 ∷ negsuc 32767 ∷ negsuc 1 ∷ negsuc 32766 ∷ z ∷ pos 1025 ∷ pos 65286
    ∷ pos 291 ∷ pos 16 ∷ pos 32 ∷ pos 64 ∷ pos 128 ∷ pos 256 ∷ pos 512 ∷ pos 4080
    ∷ pos 34049 ∷ pos 64 ∷ pos 16384 ∷ pos 29440 ∷ pos 34048 ∷ pos 40832 ∷ pos 49152 ∷ pos 65472 ∷ [])
    -- "A value is octet × 256 + precision octet (0 if none)"; "a prefixed one is its value": the first wavelength 80 and colour 09, then
    -- wavelengths 80 0k and colours 0k FF
    ∷ row (row_by 2 prefixes (0x7F ∷ 0x80 ∷ 0x80 ∷ 0x09 ∷ each (span 1 7) (λ k. 0x80 ∷ k ∷ k ∷ 0xFF ∷ [])))
    (pos 32512 ∷ negsuc 32767 ∷ z ∷ z ∷ z ∷ pos 1 ∷ z ∷ z
    ∷ pos 2304 ∷ pos 511 ∷ pos 767 ∷ pos 1023 ∷ pos 1279 ∷ pos 1535 ∷ pos 1791 ∷ pos 2047
    ∷ pos 32768 ∷ pos 32769 ∷ pos 32770 ∷ pos 32771 ∷ pos 32772 ∷ pos 32773 ∷ pos 32774 ∷ pos 32775 ∷ [])
    -- "4000 NOP (octet ignored)"
    ∷ row (row_by 1 (0x4000 ∷ each least (λ w. w ∷ 0x4000 ∷ [])) (0xFF ∷ 0x01 ∷ 0xFF ∷ 0x02 ∷ 0xFF ∷ 0x03 ∷ 0xFF ∷ []))
    (pos 256 ∷ pos 512 ∷ z ∷ z ∷ z ∷ pos 1 ∷ z ∷ z ∷ pos 768 ∷ times 7 (z ∷ []) ++ (pos 40832 ∷ []) ++ times 7 (z ∷ []))
    -- C-16: the octet of an unknown tag "is ignored, as is that of one precision tag directly behind it"
    ∷ row (row_by 2 (0x4230 ∷ each least (λ w. w ∷ 0x5C30 ∷ 0x4010 ∷ [])) (0xFF ∷ 0x01 ∷ 0xFF ∷ 0xFF ∷ 0x02 ∷ 0xFF ∷ 0xFF ∷ 0x03 ∷ 0xFF ∷ 0xFF ∷ []))
    (pos 256 ∷ pos 512 ∷ z ∷ z ∷ z ∷ pos 1 ∷ z ∷ z ∷ pos 768 ∷ times 7 (z ∷ []) ++ (pos 40832 ∷ []) ++ times 7 (z ∷ []))
    -- "Absent signals are 0, except shutter, 1", in mode 2 as in mode 1
    ∷ row (row_by 2 least (0 ∷ 0 ∷ 0 ∷ [])) (times 5 (z ∷ []) ++ (pos 1 ∷ []) ++ times 10 (z ∷ []) ++ (pos 40832 ∷ []) ++ times 7 (z ∷ []))
    -- "in coordinates the first octet is signed", without a precision octet as with one
    ∷ row (slot_by 0 2 least (map (λ x. x ∷ 0 ∷ 0 ∷ []) (0x00 ∷ 0x01 ∷ 0x7F ∷ 0x80 ∷ 0xFF ∷ [])))
    (z ∷ pos 256 ∷ pos 32512 ∷ negsuc 32767 ∷ negsuc 255 ∷ [])
    -- "Each colour is divided by 4 to the power c", bits 0-1 of the hint, wherever the hint stands: FF × 256 for each octet of a hint
    ∷ row (slot_by 8 1 hint_last (map (λ h. 0 ∷ 0 ∷ 0xFF ∷ 0 ∷ h ∷ []) (span 0 256)))
    (times 64 (pos 65280 ∷ []) ++ times 64 (pos 16320 ∷ []) ++ times 64 (pos 4080 ∷ []) ++ times 64 (pos 1020 ∷ []))
    ∷ row (slot_by 8 1 hint_first (map (λ h. h ∷ 0 ∷ 0 ∷ 0xFF ∷ 0 ∷ []) (0x00 ∷ 0x7F ∷ 0x80 ∷ 0xC0 ∷ [])))
    (pos 65280 ∷ pos 16320 ∷ pos 4080 ∷ pos 1020 ∷ [])
    -- "intensity by 4 to the power i", bits 2-3
    ∷ row (slot_by 6 1 hint_last (map (λ h. 0 ∷ 0 ∷ 0 ∷ 0xFF ∷ h ∷ []) (span 0 256)))
    (times 4 (times 16 (pos 65280 ∷ []) ++ times 16 (pos 16320 ∷ []) ++ times 16 (pos 4080 ∷ []) ++ times 16 (pos 1020 ∷ [])))
    -- "bit 7 the shutter in 4101; 4100 gives shutter 1"
    ∷ row (slot_by 5 1 hint_first (map (λ h. h ∷ 0 ∷ 0 ∷ 0 ∷ 0 ∷ []) (span 0 256))) (times 128 (z ∷ pos 1 ∷ []))
    ∷ row (slot_by 5 1 hint_last (map (λ h. 0 ∷ 0 ∷ 0 ∷ 0 ∷ h ∷ []) (0x00 ∷ 0x01 ∷ 0xFE ∷ 0xFF ∷ []))) (times 4 (pos 1 ∷ []))
    -- "A point is lit when a colour slot is not 0; shutter and intensity play no part": each of the eight colours by itself
    ∷ row (lit_by eight (map (λ k. (0 ∷ 0 ∷ 0 ∷ 0 ∷ []) ++ replicate k 0 ++ (1 ∷ replicate (7 - k) 0)) (span 0 8))) (times 8 (pos 1 ∷ []))
    ∷ row (lit_by eight ((0xFF ∷ 0xFF ∷ 0xFF ∷ 0x01 ∷ replicate 8 0) ∷ [])) (z ∷ [])
    ∷ []

pub row-pins : Agrees row_table
unfolding row_by slot_by lit_by times everything sample prefixes hint_last hint_first eight z row_table place_of colour_of intensity_of wave_of slot_of slots_of lit_among defined_group is_single reserved_space known_tag slot_for misplaced repeated tag_number role_for sample_with allowed_after read step walked incomplete end_number dictionary_number dictionary_sample
row-pins = refl
