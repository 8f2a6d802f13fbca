-- The slices that a host lends with a message (document 01, "One row", "Dimmer tags" and check 22; document 02, C-12). What is lent is
-- passed on as one record, so that a further slice is one field more.
use Rattle.std.specs.Prelude.{ℕ, List, length, ℤ}

-- what they hold: rows of numbers, levels, and the octets of a frame that comes in fragments
pub record Slices : Type 0 where
  pub rows : List ℤ
  pub levels : List ℕ
  pub assembly : List ℕ

abbrev pub slices : List ℤ → List ℕ → List ℕ → Slices
slices rows levels assembly = record { rows = rows; levels = levels; assembly = assembly }

-- how long they are; the look-back rule is given no more of them
pub record Lent : Type 0 where
  pub rows : ℕ
  pub levels : ℕ
  pub assembly : ℕ

abbrev pub lent : ℕ → ℕ → ℕ → Lent
lent rows levels assembly = record { rows = rows; levels = levels; assembly = assembly }

abbrev pub lengths : Slices → Lent
lengths s = lent (length s.rows) (length s.levels) (length s.assembly)
