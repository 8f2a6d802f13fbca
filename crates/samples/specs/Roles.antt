-- What each octet of a sample is for (document 01, "Tag dictionary" and "One row").
-- A sample is described by one role for each of its octets, in the sample's order. A role is a number: the first octet of the
-- signal that goes to a slot, that signal's precision octet, the hint's octet in one of its two formats, or an octet that nothing
-- takes. Slots are those of "One row": 0 X, 1 Y, 2 Z, 3 second X, 4 second Y, 5 shutter, 6 intensity, 7 brush, 8-15 colours,
-- 16-23 their wavelengths; a wavelength has an octet of its own where the colour has a prefix.
use Rattle.std.specs.Prelude.{ℕ, suc, ◌+◌, Bool, cond, List, [], ◌∷◌, length, ltb, eqb}

-- the octet is ignored: that of a NOP, of an unknown tag, or of the precision behind one (document 02, C-16)
abbrev pub ignored : ℕ
ignored = 0

-- the first octet of the signal in slot s
abbrev pub first_octet_of : ℕ → ℕ
first_octet_of s = s + 1

-- the precision octet of the signal in slot s
abbrev pub precision_of : ℕ → ℕ
precision_of s = s + 33

-- the hint's octet: format 0 is tag 4100, format 1 is tag 4101
abbrev pub hint_of : ℕ → ℕ
hint_of f = f + 65

-- The place of the first octet with role r, or the number of octets where no octet has it.
unfoldable pub place_of : ℕ → List ℕ → ℕ
place_of r [] = 0
place_of r (x ∷ xs) = cond (eqb x r) 0 (suc (place_of r xs))

-- some octet has role r
abbrev pub has : List ℕ → ℕ → Bool
has roles r = ltb (place_of r roles) (length roles)
