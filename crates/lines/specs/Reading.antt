-- What the listing reads: octets that a reader gave, none lost, and what stands at the front of them.
use Rattle.std.specs.Prelude.{ℕ, ◌+◌, ◌-◌, ◌<◌, min, ◌≡◌, Bool, false, ◌&&◌, ◌||◌, List, ◌++◌, length, take, drop, Option, ltb, leb, eqb}
use Rattle.std.specs.Io.KnownBytes.{Consumes}
use Rattle.receiver.specs.Stream.{entry_of}
use Rattle.lines.specs.declared.reading.Next.{Next}
use Rattle.lines.specs.declared.reading.Next.TheVariants.{Message, Cut, End}

-- the octets of a buffer from one place up to another
abbrev pub part : ℕ → ℕ → List ℕ → List ℕ
part from end octets = take (end - from) (drop from octets)

-- the part at the front, and the rest as it was
abbrev pub moved : ℕ → ℕ → List ℕ → List ℕ
moved from end octets = part from end octets ++ drop (end - from) octets

-- more octets than any message has: a size is two octets
abbrev pub most : ℕ
most = 65536

-- when no more is read: a whole message is there, or the input gave nothing more, or no message can still become whole
abbrev pub stops : ℕ → ℕ → Bool → Bool
stops size count ended = ltb 0 size || ended || leb most count

-- octets have gained those that a reader gave between two states, of which it has left the known bytes
pub record Gained (left₀ left₁ : Option (List ℕ)) (octets₀ octets₁ : List ℕ) : Type 0 where
  pub more : List ℕ
  pub read : Consumes left₀ left₁ more
  pub after : octets₁ ≡ octets₀ ++ more

-- what stands at the front of octets: they are a whole message; no message stands there, whatever follows; or none does
abbrev pub Stands : Next → List ℕ → Type 0
Stands Message octets = (0 < entry_of octets) × (entry_of octets ≡ length octets)
Stands Cut octets = (more : List ℕ) → entry_of (octets ++ more) ≡ 0
Stands End octets = entry_of octets ≡ 0

-- what stands at the front of octets behind which more may follow: a whole message does; none does, whatever follows; or none does so far
abbrev pub StandsFirst : Next → List ℕ → Type 0
StandsFirst Message octets = 0 < entry_of octets
StandsFirst Cut octets = (more : List ℕ) → entry_of (octets ++ more) ≡ 0
StandsFirst End octets = (entry_of octets ≡ 0) × (length octets < most)

-- the largest number of 64 bits
abbrev pub largest : ℕ
largest = 18446744073709551615

-- the count of octets from a cut on, after one more read gave so many; a count past 64 bits stays at the largest number
abbrev pub counted_of : ℕ → ℕ → ℕ
counted_of before got = min (before + got) largest

-- the octets are counted to the end of the input: the last read gave nothing, or the count can be no larger
abbrev pub counted_all : ℕ → Bool → Bool
counted_all count ended = ended || eqb count largest

-- the listing goes on to the next message: a whole one is there. A proved loop has to end and nothing says that an input does, so a
-- run ends after 2^64 - 1 messages too.
abbrev pub goes_on : ℕ → ℕ → Bool
goes_on size messages = ltb 0 size && ltb messages largest

-- the same of what stands at the front of the input
abbrev pub lists_on : Next → ℕ → Bool
lists_on Message messages = ltb messages largest
lists_on Cut messages = false
lists_on End messages = false
