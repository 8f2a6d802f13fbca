-- Numbers as text, and a text written at the front of a slice.
use Rattle.std.specs.Prelude.{ℕ, zero, suc, ◌+◌, ◌-◌, ◌≤◌, ◌/◌, ◌≡◌, cond, List, [], ◌∷◌, ◌++◌, length, take, drop, ltb}
use Rattle.io.specs.Digits.{last_digits}

-- how many digits n has in base ten, up to one more than `most`
unfoldable pub places : ℕ → ℕ → ℕ
places zero n = 1
places (suc most) n = cond (ltb n 10) 1 (suc (places most (n / 10)))

-- n in decimal, with no zero in front; a number of 64 bits has at most twenty digits
unfoldable pub decimal : ℕ → List ℕ
decimal n = last_digits 10 (places 19 n) n

-- each number after a space
unfoldable pub spaced : List ℕ → List ℕ
spaced [] = []
spaced (n ∷ ns) = 32 ∷ decimal n ++ spaced ns

-- a line: its first word, the numbers after it, and the line end
unfoldable pub line_of : List ℕ → List ℕ → List ℕ
line_of word ns = word ++ spaced ns ++ (10 ∷ [])

-- a slice with the text at its front, and as it was after the text
abbrev pub over : List ℕ → List ℕ → List ℕ
over text out = text ++ drop (length text) out

-- what a function has done that writes a text at the front of a slice with room for it, and gives the text's length
pub record Front (text out₀ : List ℕ) (r : ℕ) (out₁ : List ℕ) : Type 0 where
  pub count : r ≡ length text
  pub out : out₁ ≡ over text out₀

-- the room that a line must have: no line is longer
abbrev pub room : ℕ
room = 128

-- the place for the next line in a buffer of so many octets: after those collected, or the start, once they are written out, where a line
-- might not fit
abbrev pub place_for : ℕ → ℕ → ℕ
place_for at size = cond (ltb (size - at) room) 0 at

-- what a call has done that adds a text to a slice at a place: the text stands before the place that it gives, and what lies before and
-- after the text is as it was
pub record Added (text : List ℕ) (at : ℕ) (out₀ : List ℕ) (r : ℕ) (out₁ : List ℕ) : Type 0 where
  pub count : r ≡ at + length text
  pub out : out₁ ≡ take at out₀ ++ text ++ drop (at + length text) out₀
  pub fits : r ≤ length out₁
