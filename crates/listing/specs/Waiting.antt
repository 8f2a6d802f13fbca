-- What waits in the listing's input: octets that its reader gave and that are not listed yet.
use Rattle.std.specs.Prelude.{ℕ, ◌≡◌, Bool, true, false, List, ◌++◌, length, slice_range, Option, Result, MatchResult, ◌<◌}
use Rattle.std.specs.Io.KnownBytes.{Keeps, IsAtEnd, prepend_known}
use Rattle.listing.specs.declared.input.Input.{Input}

-- how many may wait
abbrev pub input_room : ℕ
input_room = 131072

abbrev pub waiting_in : {R : Type 0} → Input R → List ℕ
waiting_in i = slice_range i.octets i.start i.end

-- what is still to be listed, where the reader's octets are known: those that wait, and those that the reader has left
abbrev pub unlisted : {R : Type 0} → (R → Option (List ℕ)) → Input R → Option (List ℕ)
unlisted remaining i = prepend_known (waiting_in i) (remaining i.from)

-- what one read has done: what was still to be listed still is, what waited is at the front of what waits, with what came behind it, and where
-- no octet came the reader has none left
pub record Grown {R E : Type 0} (remaining : R → Option (List ℕ)) (i₀ : Input R) (came : Result Bool E) (i₁ : Input R) : Type 0 where
  pub more : List ℕ
  pub waiting : waiting_in i₁ ≡ waiting_in i₀ ++ more
  pub keeps : Keeps (unlisted remaining i₀) (unlisted remaining i₁)
  pub some : MatchResult came (λ any. (any ≡ true → 0 < length more) × (any ≡ false → (waiting_in i₁ ≡ waiting_in i₀) × IsAtEnd (remaining i₁.from))) (λ _. waiting_in i₁ ≡ waiting_in i₀)
