-- What the listing has done so far, and what it does in all, with a reader that had and has left the known bytes.
use Rattle.std.specs.Prelude.{ℕ, ◌≤◌, ◌≡◌, ◌⊎◌, List, [], length, Option, IfSome, Result, OnOk}
use Rattle.std.specs.Io.KnownBytes.{Consumes, Appends}
use Rattle.receiver.specs.Stream.{entry_of}
use Rattle.receiver.specs.declared.Receiver.{Receiver}
use Rattle.lines.specs.Reading.{largest, counted_of}
use Rattle.lines.specs.Listing.{Ran, ListingOf}
use Rattle.listing.specs.Writing.{Puts}
use Rattle.listing.specs.declared.output.Output.{Output}

-- octets were given, and so many messages listed of them, which are all of them, and whose lines were put
pub record Progress (left₀ left₁ : Option (List ℕ)) (Put : List ℕ → Type 0) (r : Receiver) (assembly : List ℕ) (count : ℕ) : Type 0 where
  pub octets : List ℕ
  pub messages : List (List ℕ)
  pub lines : List ℕ
  pub ran : Ran octets messages r assembly [] lines
  pub counted : length messages ≡ count
  pub given : Consumes left₀ left₁ octets
  pub put : Put lines

-- More messages listed, those that wait whole: what was listed and put before, with nothing else taken from what there is to list, still is, and
-- these behind it.
abbrev pub ListsOn : {W E : Type 0} → (W → Option (List ℕ)) → Option (List ℕ) → Option (List ℕ) → Output W E → Output W E → Receiver → Receiver → List ℕ → List ℕ → ℕ → ℕ → Type 0
ListsOn {W} {E} contents left₁ left₂ o₁ o₂ r₁ r₂ assembly₁ assembly₂ count₁ count₂ =
    (left₀ : Option (List ℕ)) (o₀ : Output W E)
    → Progress left₀ left₁ (λ text. Puts contents o₀ text o₁) r₁ assembly₁ count₁
    → Progress left₀ left₂ (λ text. Puts contents o₀ text o₂) r₂ assembly₂ count₂

-- the octets given are all that the reader had, where no read failed, or at least as many as 64 bits count
abbrev pub ToTheEnd : {T E : Type 0} → Result T E → Option (List ℕ) → List ℕ → Type 0
ToTheEnd read left octets = OnOk read (IfSome left (λ all. all ≡ octets) ⊎ (largest ≤ length octets))

-- the messages are listed, their lines put, and the octets behind them counted
pub record AllRead {T E : Type 0} (left₀ left₁ : Option (List ℕ)) (Put : List ℕ → Type 0) (r : Receiver) (count : ℕ) (read : Result T E) : Type 0 where
  pub octets : List ℕ
  pub messages : List (List ℕ)
  pub assembly : List ℕ
  pub rest : List ℕ
  pub lines : List ℕ
  pub ran : Ran octets messages r assembly rest lines
  pub whole : (entry_of rest ≡ 0) ⊎ (largest ≤ length messages)
  pub counted : count ≡ counted_of 0 (length rest)
  pub given : Consumes left₀ left₁ octets
  pub put : Put lines
  pub all : ToTheEnd read left₀ octets

-- the octets given, and the text put, which is their listing
pub record AllListed {T E : Type 0} (left₀ left₁ : Option (List ℕ)) (Put : List ℕ → Type 0) (read : Result T E) : Type 0 where
  pub octets : List ℕ
  pub text : List ℕ
  pub listing : ListingOf octets text
  pub given : Consumes left₀ left₁ octets
  pub put : Put text
  pub all : ToTheEnd read left₀ octets

-- The program: the octets that a reader gave between two states, of which it has left the known bytes; their listing, added to the known bytes that a writer
-- holds, where no write failed; and where no read failed, the octets are all that the reader had, or as many as 64 bits count.
pub record Listed {T E : Type 0} (left₀ left₁ held₀ held₁ : Option (List ℕ)) (read written : Result T E) : Type 0 where
  pub octets : List ℕ
  pub text : List ℕ
  pub listing : ListingOf octets text
  pub given : Consumes left₀ left₁ octets
  pub put : OnOk written (Appends held₀ held₁ text)
  pub all : ToTheEnd read left₀ octets
