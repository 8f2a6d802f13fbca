-- The tags of a dictionary (document 01, "Tag dictionary, modes 1 and 2"; 003, 3.4; those that are not known: document 02, C-16). A tag
-- is a 16-bit word of four nibbles: category, subcategory, identifier, parameter.
use Rattle.std.specs.Prelude.{ℕ, ◌+◌, ◌/◌, ◌%◌, Bool, cond, not, ◌&&◌, ◌||◌, List, [], ◌∷◌, get_or, ltb, leb, eqb}

-- "Which of the sixteen categories take an octet stands in a constant table: 4 and 5 do"
abbrev pub octet_table : List ℕ
octet_table = 0 ∷ 0 ∷ 0 ∷ 0 ∷ 1 ∷ 1 ∷ 0 ∷ 0 ∷ 0 ∷ 0 ∷ 0 ∷ 0 ∷ 0 ∷ 0 ∷ 0 ∷ 0 ∷ []

abbrev pub takes_octet : ℕ → Bool
takes_octet w = eqb (get_or octet_table (w / 4096) 0) 1

-- Groups defined (category.subcategory): 0.0, 1.0, 1.1, 4.0, 4.1, 4.2, 5.0 to 5.3, 5.12
unfoldable pub defined_group : ℕ → Bool
defined_group w =
    eqb (w / 256) 0x00 || eqb (w / 256) 0x10 || eqb (w / 256) 0x11
    || eqb (w / 256) 0x40 || eqb (w / 256) 0x41 || eqb (w / 256) 0x42
    || leb 0x50 (w / 256) && leb (w / 256) 0x53 || eqb (w / 256) 0x5C

-- ---- the tags known

-- 000n Void
abbrev pub is_void : ℕ → Bool
is_void w = ltb w 16

-- 11pp space modifier
abbrev pub is_space : ℕ → Bool
is_space w = eqb (w / 256) 0x11

-- 4010 precision
abbrev pub is_precision : ℕ → Bool
is_precision w = eqb w 0x4010

-- 4100 and 4101 hint
abbrev pub is_hint : ℕ → Bool
is_hint w = eqb (w / 2) 0x2080

-- 5www colour, of ten-bit wavelength www
abbrev pub is_colour : ℕ → Bool
is_colour w = leb 0x5000 w && ltb w 0x5400

abbrev pub wavelength : ℕ → ℕ
wavelength w = w % 1024

-- 5000, the colour whose wavelength a prefix gives
abbrev pub is_prefixed : ℕ → Bool
is_prefixed w = eqb w 0x5000

-- 5C00 wavelength prefix
abbrev pub is_prefix : ℕ → Bool
is_prefix w = eqb w 0x5C00

-- the signals that a dictionary has at most once: X, Y, Z, second X, second Y, intensity, brush
unfoldable pub is_single : ℕ → Bool
is_single w =
    eqb w 0x4200 || eqb w 0x4210 || eqb w 0x4220 || eqb w 0x4201 || eqb w 0x4211 || eqb w 0x5C10 || eqb w 0x5C20

-- "pp = GLIN, CLIN, CBAL, CTIM, two bits each; binary 10 is reserved in GLIN, CBAL and CTIM"
unfoldable pub reserved_space : ℕ → Bool
reserved_space w = eqb (w / 64 % 4) 2 || eqb (w / 4 % 4) 2 || eqb (w % 4) 2

-- "Tags known, in hexadecimal": all of them, whatever the mode and the space values
unfoldable pub known_tag : ℕ → Bool
known_tag w =
    is_void w || is_space w || eqb w 0x4000 || is_precision w || is_hint w || is_single w || is_colour w || is_prefix w

-- ---- what check 9 refuses, and what is passed over: C-16, "an unknown tag of a defined group is passed over"

-- 100n Break
abbrev pub is_break : ℕ → Bool
is_break w = eqb (w / 16) 0x100

-- "hint formats beyond 1": 4102 to 410F
abbrev pub is_newer_hint : ℕ → Bool
is_newer_hint w = eqb (w / 16) 0x410 && not (is_hint w)

-- check 9 refuses: "Break, hint formats beyond 1, hint 1 in mode 2 and reserved space values still give 9"
abbrev pub refused_tag : ℕ → ℕ → Bool
refused_tag mode w =
    is_break w || is_newer_hint w || eqb w 0x4101 && not (eqb mode 1) || is_space w && reserved_space w

-- how many words after it the tag skips: "000n Void: the next n words are skipped unread"; of an unknown tag "In group 0.0 its parameter
-- gives the words to skip"; none after a tag of another group
abbrev pub skips : ℕ → ℕ
skips w = cond (eqb (w / 256) 0x00) (w % 16) 0

-- an unknown tag with an octet, of those that 8 and 9 let through: "In categories 4 and 5 its octet is ignored, as is that of one precision tag
-- directly behind it"
abbrev pub is_unknown_octet : ℕ → Bool
is_unknown_octet w = takes_octet w && not (known_tag w)

-- ---- what an octet is for

-- the signals that go to a slot of the row, and so may have a precision: "X, Y, Z, second X or Y, colour, intensity, brush or prefix"
abbrev pub is_signal : ℕ → Bool
is_signal w = is_single w || is_colour w || is_prefix w

-- the slot of the signal, where the dictionary has k colours so far ("One row": slots 8-15 colours in dictionary order, 16-23
-- their wavelengths)
unfoldable pub slot_for : ℕ → ℕ → ℕ
slot_for w k =
    cond (eqb w 0x4200) 0
    (cond (eqb w 0x4210) 1
    (cond (eqb w 0x4220) 2
    (cond (eqb w 0x4201) 3
    (cond (eqb w 0x4211) 4
    (cond (eqb w 0x5C10) 6
    (cond (eqb w 0x5C20) 7
    (cond (is_prefix w) (k + 16) (k + 8))))))))
