-- The count of octets to the end of an input.
use Rattle.std.specs.Prelude.{ℕ, ◌≡◌, ◌⊎◌, List, length, Option, IfSome, Result, OnOk}
use Rattle.std.specs.Io.KnownBytes.{Consumes}
use Rattle.lines.specs.Reading.{largest, counted_of}

-- the octets that a reader gave between two states, of which it has left the known bytes: all that it had, where no read failed, or as
-- many as 64 bits count
pub record Counted {T E : Type 0} (left₀ left₁ : Option (List ℕ)) (before count : ℕ) (read : Result T E) : Type 0 where
  pub octets : List ℕ
  pub given : Consumes left₀ left₁ octets
  pub counted : count ≡ counted_of before (length octets)
  pub all : OnOk read (IfSome left₀ (λ all. all ≡ octets) ⊎ (count ≡ largest))
