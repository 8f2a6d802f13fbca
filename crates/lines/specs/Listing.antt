-- A run of the listing over the octets that it has read (document 01, "Calls and layers": "reads messages end to end from standard input,
-- starts at 0 0 0, lends 12,000 numbers and 1,024 octets"; document 02, C-12: "the listing lends 65,536 octets").
use Rattle.std.specs.Prelude.{ℕ, ◌<◌, ◌≤◌, ◌≡◌, ◌⊎◌, List, [], ◌∷◌, ◌++◌, length, take, drop}
use Rattle.receiver.specs.Slices.{Slices, lent, lengths}
use Rattle.receiver.specs.Meters.{sums}
use Rattle.receiver.specs.Contract.{Started, Answered, readings_of}
use Rattle.receiver.specs.Stream.{entry_of}
use Rattle.receiver.specs.declared.Receiver.{Receiver}
use Rattle.receiver.specs.declared.Outcome.{Outcome}
use Rattle.lines.specs.Lines.{reply_line, cut_line, meters_line}
use Rattle.lines.specs.Reading.{largest, counted_of}

-- All octets read so far, the messages listed, the receiver that the last of them left, the assembly slice as it was left, and the octets
-- not yet listed. A receiver is started at 0 0 0 when the first octets are there; then the message at the front of the unread octets is
-- offered to the receiver that the one before left, with 12,000 numbers, 1,024 octets and one assembly slice of 65,536 octets lent, which is
-- the same for the whole run, and others may be read after the rest.
pub data Listing : List ℕ → List (List ℕ) → Receiver → List ℕ → List ℕ → Type 0 where
  begun : (o : Outcome) → Started (sums 0 0 0) o → (assembly unread : List ℕ) → Listing unread [] o.receiver assembly unread
  listed : {input : List ℕ} {messages : List (List ℕ)} {r : Receiver} {assembly unread : List ℕ} → Listing input messages r assembly unread
      → 0 < entry_of unread → (s₀ s₁ : Slices) (o : Outcome) → lengths s₀ ≡ lent 12000 1024 65536 → s₀.assembly ≡ assembly
      → Answered r (take (entry_of unread) unread) s₀ o s₁ → (more : List ℕ)
      → Listing (input ++ more) (messages ++ (take (entry_of unread) unread ∷ [])) o.receiver s₁.assembly (drop (entry_of unread) unread ++ more)

-- the lines of the replies in a run, one after the other
unfoldable pub answers : {input : List ℕ} {messages : List (List ℕ)} {r : Receiver} {assembly unread : List ℕ} → Listing input messages r assembly unread → List ℕ
answers (begun o started assembly unread) = []
answers (listed run some s₀ s₁ o room same answered more) = answers run ++ reply_line o.reply

-- such a run with the text of its lines
pub record Ran (input : List ℕ) (messages : List (List ℕ)) (r : Receiver) (assembly unread text : List ℕ) : Type 0 where
  pub run : Listing input messages r assembly unread
  pub lines : text ≡ answers run

-- A text is the listing of an input: the lines of the messages that stand in it from the front on, as far as whole ones do, or at
-- least 2^64 - 1 of them; the line of what is left, where octets are; and the line of the readings.
pub record ListingOf (input text : List ℕ) : Type 0 where
  pub messages : List (List ℕ)
  pub receiver : Receiver
  pub assembly : List ℕ
  pub rest : List ℕ
  pub lines : List ℕ
  pub ran : Ran input messages receiver assembly rest lines
  pub whole : (entry_of rest ≡ 0) ⊎ (largest ≤ length messages)
  pub is : text ≡ lines ++ cut_line (counted_of 0 (length rest)) ++ meters_line (readings_of receiver)
