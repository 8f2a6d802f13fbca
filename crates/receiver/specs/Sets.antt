-- A set of configuring messages in one call (document 02, C-14): "All are accepted or none is, with the channels that offering them one by
-- one would leave." Like the checks, it goes by what stands before it and knows nothing of the record: the contract reads that off the
-- receiver, the look-back rule finds it in the list.
use Rattle.std.specs.Prelude.{ℕ, ◌+◌, cond, not, List, [], ◌∷◌, eqb}
use Rattle.tags.specs.Choice.{refuse, first}
use Rattle.receiver.specs.Message.{top_bit, type_of}
use Rattle.receiver.specs.Slices.{Lent, lent}
use Rattle.receiver.specs.Chunk.{void_type}
use Rattle.receiver.specs.Checks.{wrong_length, Standing, governed_in, number_of}
use Rattle.receiver.specs.Effects.{sums_after, governing_after, gathering_after}
use Rattle.receiver.specs.Stream.{parts_in}
use Rattle.receiver.specs.declared.SetReply.{SetReply}

-- ---- one message of it

-- no slice is lent with a set; for a message of type 0x00 none counts (proofs/SetLaws.antt: void_same)
abbrev pub none_lent : Lent
none_lent = lent 0 0 0

-- "A message of another type is refused by 4": at check 4, so that 2 and 3 come before it as they always do. One of type 0x00 has the
-- number that it would have if it were offered by itself.
unfoldable pub member_number : List ℕ → Standing → ℕ
member_number m b =
    first (refuse (wrong_length m) 2)
    (first (refuse (eqb (top_bit m) 0) 3) (first (refuse (not (void_type (type_of m))) 4) (number_of m none_lent b)))

-- what stands after it where it is accepted: what it would leave if it were offered by itself
unfoldable pub standing_after : List ℕ → Standing → Standing
standing_after m b =
    record {
      channels = governing_after m 0 b.channels;
      gathering = gathering_after m 0 (governed_in m b) b.gathering;
      sums = sums_after m 0 (governed_in m b) b.gathering b.sums;
    }

-- ---- all of it

abbrev pub set_reply : ℕ → ℕ → SetReply
set_reply place number = record { place = place; number = number }

-- "the reply holds the place of the first refused message, counted from 0, and its number; otherwise it holds how many there were and 0":
-- of the messages from this place on, each offered to what the one before left
unfoldable pub replied_from : ℕ → Standing → List (List ℕ) → SetReply
replied_from place b [] = set_reply place 0
replied_from place b (m ∷ ms) =
    cond (eqb (member_number m b) 0)
    (replied_from (place + 1) (standing_after m b) ms)
    (set_reply place (member_number m b))

-- the reply to the messages in one slice; "An empty list is accepted"
abbrev pub replied_to : List ℕ → Standing → SetReply
replied_to octets b = replied_from 0 b (parts_in octets)

-- what the last of them leaves, where each is accepted
unfoldable pub standing_behind : Standing → List (List ℕ) → Standing
standing_behind b [] = b
standing_behind b (m ∷ ms) = standing_behind (standing_after m b) ms

-- what stands after the set: "All are accepted or none is"
abbrev pub standing_by_set : List ℕ → Standing → Standing
standing_by_set octets b = cond (eqb (replied_to octets b).number 0) (standing_behind b (parts_in octets)) b
