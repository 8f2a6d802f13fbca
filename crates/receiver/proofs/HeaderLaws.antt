-- Laws about checks 2 to 5: 2 and 3 come first, as one.
use Prim.Native.Nat.{ℕ, zero, suc}
use mathlib.Core.Path.{◌≡◌, refl, sym}
use native.Mathlib.Omega.{arith}
use mathlib.Core.Bool.{not}
use mathlib.Core.List.{List}
use lib.Dec.{eqb}
use Rattle.tags.specs.Choice.{refuse, first}
use Rattle.receiver.specs.Message.{top_bit, type_of}
use Rattle.receiver.specs.Chunk.{known_type}
use Rattle.receiver.specs.Checks.{wrong_length, front_number, passes_end, header_number}
use Rattle.receiver.specs.Section.{section_number}

-- ---- checks 2 to 5

first-first : (a b c : ℕ) → first (first a b) c ≡ first a (first b c)
first-first zero b c = refl
first-first (suc a) b c = grind arith

front-first : (m : List ℕ) (n : ℕ) → first (front_number m) n ≡ first (refuse (wrong_length m) 2) (first (refuse (eqb (top_bit m) 0) 3) n)
front-first m = first-first (refuse (wrong_length m) 2) (refuse (eqb (top_bit m) 0) 3)

pub header_in_turn : (m : List ℕ) → header_number m ≡ first (front_number m) (first (refuse (not (known_type (type_of m))) 4) (refuse (passes_end m) 5))
unfolding header_number
header_in_turn m = sym (front-first m _)

pub section_in_turn : (m : List ℕ) → section_number m ≡ first (front_number m) (refuse (passes_end m) 5)
unfolding section_number
section_in_turn m = sym (front-first m _)
