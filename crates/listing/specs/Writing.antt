-- What is written to an output.
use Rattle.std.specs.Prelude.{ℕ, ◌≡◌, List, take, Option, IsOk, IsErr}
use Rattle.std.specs.Io.KnownBytes.{Appends, append_known}
use Rattle.listing.specs.declared.output.Output.{Output}

-- how many octets of lines may be collected
abbrev pub output_room : ℕ
output_room = 65536

-- the lines that are not written out yet
abbrev pub collected : {W E : Type 0} → Output W E → List ℕ
collected o = take o.end o.text

-- what the writer holds, where that is known, and the lines behind it
abbrev pub held : {W E : Type 0} → (W → Option (List ℕ)) → Output W E → Option (List ℕ)
held contents o = append_known (contents o.to) (collected o)

-- an output that stays as it is
pub record Stays {W E : Type 0} (o₀ o₁ : Output W E) : Type 0 where
  pub to : o₁.to ≡ o₀.to
  pub text : o₁.text ≡ o₀.text
  pub end : o₁.end ≡ o₀.end
  pub written : o₁.written ≡ o₀.written
  pub told : o₁.told ≡ o₀.told

-- A text put to an output, whose writer holds the known bytes: it was added to those and to what is collected, unless a write has failed;
-- after one that did, the output stays as it is.
pub record Puts {W E : Type 0} (contents : W → Option (List ℕ)) (o₀ : Output W E) (text : List ℕ) (o₁ : Output W E) : Type 0 where
  pub added : IsOk o₁.written → IsOk o₀.written × Appends (held contents o₀) (held contents o₁) text
  pub given_up : IsErr o₀.written → Stays o₀ o₁
