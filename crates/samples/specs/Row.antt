-- One sample as one row (document 01, "One row"). `roles` says what each octet is for, `waves` has the wavelength of each colour in
-- dictionary order (0 where a prefix gives it), and `sample` holds the octets. A signal is absent where no octet has the role of its first.
use Rattle.std.specs.Prelude.{ℕ, zero, suc, ◌+◌, ◌-◌, ◌*◌, ◌/◌, ◌%◌, ◌^◌, Bool, false, not, cond, ◌||◌, List, [], ◌∷◌, ◌++◌, get_or, ltb, eqb, ℤ, pos, negsuc}
use Rattle.samples.specs.Limits.{colour_limit, row_size}
use Rattle.samples.specs.Roles.{first_octet_of, precision_of, hint_of, place_of, has}

-- the octet with role r, 0 if there is none
abbrev pub octet_of : List ℕ → List ℕ → ℕ → ℕ
octet_of roles sample r = get_or sample (place_of r roles) 0

-- "A value is octet × 256 + precision octet (0 if none)"; "Absent signals are 0": so is one without a first octet
abbrev pub value_of : List ℕ → List ℕ → ℕ → ℕ
value_of roles sample s =
    cond (has roles (first_octet_of s)) (octet_of roles sample (first_octet_of s) * 256 + octet_of roles sample (precision_of s)) 0

-- "in coordinates the first octet is signed": sixteen bits in two's complement
abbrev pub signed : ℕ → ℤ
signed v = cond (ltb v 32768) (pos v) (negsuc (65535 - v))

-- ---- the hint

-- the place of the hint's octet, in whichever format the dictionary has
abbrev pub hint_place : List ℕ → ℕ
hint_place roles = cond (has roles (hint_of 1)) (place_of (hint_of 1) roles) (place_of (hint_of 0) roles)

-- the hint's octet; "without a hint both scales are 0", as with an octet of 0
abbrev pub hint_in : List ℕ → List ℕ → ℕ
hint_in roles sample = get_or sample (hint_place roles) 0

-- bits 0-1, the colour scale c
abbrev pub colour_scale : ℕ → ℕ
colour_scale h = h / 64

-- bits 2-3, the intensity scale i
abbrev pub intensity_scale : ℕ → ℕ
intensity_scale h = h / 16 % 4

-- "bit 7 the shutter in 4101; 4100 gives shutter 1", and 1 without a hint
abbrev pub shutter_of : List ℕ → ℕ → ℕ
shutter_of roles h = cond (has roles (hint_of 1)) (h % 2) 1

-- ---- the slots

-- slot 8 + k, the k-th colour: "divided by 4 to the power c, .. rounded down, wherever the hint stands"
unfoldable pub colour_of : List ℕ → List ℕ → ℕ → ℕ
colour_of roles sample k = value_of roles sample (k + 8) / 4 ^ colour_scale (hint_in roles sample)

-- slot 6: intensity, divided by 4 to the power i, rounded down
unfoldable pub intensity_of : List ℕ → List ℕ → ℕ
intensity_of roles sample = value_of roles sample 6 / 4 ^ intensity_scale (hint_in roles sample)

-- slot 16 + k: "a fixed wavelength w is w × 64; a prefixed one is its value"
unfoldable pub wave_of : List ℕ → List ℕ → List ℕ → ℕ → ℕ
wave_of roles waves sample k =
    cond (eqb (get_or waves k 0) 0) (value_of roles sample (k + 16)) (get_or waves k 0 * 64)

-- what stands in slot s of the row
unfoldable pub slot_of : List ℕ → List ℕ → List ℕ → ℕ → ℤ
slot_of roles waves sample s =
    cond (ltb s 5) (signed (value_of roles sample s))
    (cond (eqb s 5) (pos (shutter_of roles (hint_in roles sample)))
    (cond (eqb s 6) (pos (intensity_of roles sample))
    (cond (eqb s 7) (pos (value_of roles sample 7))
    (cond (ltb s 16) (pos (colour_of roles sample (s - 8)))
    (pos (wave_of roles waves sample (s - 16)))))))

-- the first n slots, from slot 0 on
unfoldable pub slots_of : List ℕ → List ℕ → List ℕ → ℕ → List ℤ
slots_of roles waves sample zero = []
slots_of roles waves sample (suc n) = slots_of roles waves sample n ++ (slot_of roles waves sample n ∷ [])

-- "A point is 24 signed 32-bit numbers"
abbrev pub row_of : List ℕ → List ℕ → List ℕ → List ℤ
row_of roles waves sample = slots_of roles waves sample row_size

-- ---- lit

-- one of the first n colours is not 0
unfoldable pub lit_among : List ℕ → List ℕ → ℕ → Bool
lit_among roles sample zero = false
lit_among roles sample (suc n) = lit_among roles sample n || not (eqb (colour_of roles sample n) 0)

-- "A point is lit when a colour slot is not 0; shutter and intensity play no part"
abbrev pub lit_of : List ℕ → List ℕ → Bool
lit_of roles sample = lit_among roles sample colour_limit
