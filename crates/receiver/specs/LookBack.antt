-- The look-back rule (document 01, "Meters and the look-back rule"). A list that demand 3 speaks of is a meter history: the messages
-- offered, each with the lengths of the slices lent with it, by themselves or (C-14) in sets. The rule works from that list and the
-- starting readings alone: no type of the receiver's record is named here. Inside, the latest message stands first, so that "the latest
-- earlier message" is found by plain recursion.
use Rattle.std.specs.Prelude.{ℕ, cond, ◌&&◌, eqb}
use mathlib.Core.List.{List, [], ◌∷◌, map, reverse, reverse_aux}
use Rattle.receiver.specs.Message.{channel_of}
use Rattle.receiver.specs.Governing.{Governing, Configuration, closed, meant}
use Rattle.receiver.specs.Slices.{Slices, Lent, lengths}
use Rattle.receiver.specs.Meters.{Sums, sums, plus, over_limit}
use Rattle.receiver.specs.Gathering.{Gathering, no_gathering}
use Rattle.receiver.specs.Checks.{governs, Standing, number_of}
use Rattle.receiver.specs.Effects.{reply_of, slices_after, sums_after, decides, decided, gathering_after}
use Rattle.receiver.specs.Stream.{parts_in}
use Rattle.receiver.specs.Sets.{none_lent, replied_to}
use Rattle.receiver.specs.declared.Reply.{Reply}
use Rattle.receiver.specs.declared.SetReply.{SetReply}

-- a message of the list: its octets and the lengths of the slices lent with it
pub record Offer : Type 0 where
  pub octets : List ℕ
  pub lent : Lent

abbrev pub offer : List ℕ → Lent → Offer
offer octets lent = record { octets = octets; lent = lent }

-- a message with the number that the rule gives it
pub record Judged : Type 0 where
  pub octets : List ℕ
  pub number : ℕ

-- What governs channel c after the judged messages, latest first: "the latest earlier message on its channel that was accepted with
-- Routing, accepted with Close, or refused by 19" decides; with none the channel is closed.
unfoldable pub lookback : List Judged → ℕ → Governing
lookback [] c = closed
lookback (j ∷ js) c =
    cond (decides j.octets j.number && eqb c (channel_of j.octets))
    (decided j.octets j.number)
    (lookback js c)

-- what is read of it for the next message
abbrev pub channels_by : List Judged → ℕ → Configuration
channels_by js c = meant (lookback js c)

-- what governs message m after them
abbrev pub governed_by : List Judged → List ℕ → Configuration
governed_by js m = governs m (channels_by js)

-- C-12: what is gathered of a frame after them, its octets taken from the messages of the list
unfoldable pub gathering_by : List Judged → Gathering
gathering_by [] = no_gathering
gathering_by (j ∷ js) = gathering_after j.octets j.number (governed_by js j.octets) (gathering_by js)

-- The durations, points and lit points that the rule works out: what each accepted message adds, by what governs it.
unfoldable pub worked_out : List Judged → Sums
worked_out [] = sums 0 0 0
worked_out (j ∷ js) = sums_after j.octets j.number (governed_by js j.octets) (gathering_by js) (worked_out js)

-- "the running sums of the list, which are the starting readings plus what its accepted messages so far add"
abbrev pub running : Sums → List Judged → Sums
running start js = plus start (worked_out js)

-- what stands before one more message
abbrev pub standing_by : Sums → List Judged → Standing
standing_by start js = record { channels = channels_by js; gathering = gathering_by js; sums = running start js }

-- the number of one more message after the judged ones
abbrev pub judge : Sums → List Judged → Offer → Judged
judge start js o = record { octets = o.octets; number = number_of o.octets o.lent (standing_by start js) }

-- the whole list judged, latest first
unfoldable pub judged : Sums → List Offer → List Judged
judged start [] = []
judged start (o ∷ os) = judge start (judged start os) o ∷ judged start os

-- the reply to message j after the judged ones, by what governs it; and to each judged message
abbrev pub reply_by : List Judged → Judged → Reply
reply_by js j = reply_of j.octets j.number (governed_by js j.octets) (gathering_by js)

unfoldable pub replies_by : List Judged → List Reply
replies_by [] = []
replies_by (j ∷ js) = reply_by js j ∷ replies_by js

-- readings above the limit count as the 0 0 0 that start then sets
abbrev pub starting_sums : Sums → Sums
starting_sums s = cond (over_limit s) (sums 0 0 0) s

-- ---- C-14: a list of calls, messages and sets mixed

-- a call of the list: a message, or the octets of a set
pub data Called : Type 0 where
  message : Offer → Called
  set : List ℕ → Called

-- the messages of a set as they count, in order
abbrev pub members : List ℕ → List Offer
members octets = map (λ m. offer m none_lent) (parts_in octets)

-- the messages that the calls count as, both latest first: "An accepted set counts in a meter history as its messages in order, a refused
-- one as no message."
unfoldable pub offers_by : Sums → List Called → List Offer
offers_by start [] = []
offers_by start (message o ∷ calls) = o ∷ offers_by start calls
offers_by start (set octets ∷ calls) =
    let before = offers_by start calls in
    cond (eqb (replied_to octets (standing_by start (judged start before))).number 0) (reverse_aux (members octets) before) before

-- the judged messages of the calls
abbrev pub judged_by : Sums → List Called → List Judged
judged_by start calls = judged start (offers_by start calls)

-- the reply to a call: to a message, or to a set
pub data Answer : Type 0 where
  message : Reply → Answer
  set : SetReply → Answer

-- to one more call after the judged messages
unfoldable pub answer_by : Sums → List Judged → Called → Answer
answer_by start js (message o) = message (reply_by js (judge start js o))
answer_by start js (set octets) = set (replied_to octets (standing_by start js))

-- to each call
unfoldable pub answers_by : Sums → List Called → List Answer
answers_by start [] = []
answers_by start (c ∷ calls) = answer_by start (judged_by start calls) c ∷ answers_by start calls

-- ---- a history in order

-- the messages that a list of calls counts as
abbrev pub history_offers : Sums → List Called → List Offer
history_offers start calls = reverse (offers_by (starting_sums start) (reverse calls))

-- the reply to each call
abbrev pub history_answers : Sums → List Called → List Answer
history_answers start calls = reverse (answers_by (starting_sums start) (reverse calls))

-- the list judged, latest message first
abbrev pub history_judged : Sums → List Offer → List Judged
history_judged start offers = judged (starting_sums start) (reverse offers)

-- the reply to each message, and the number in it
abbrev pub history_replies : Sums → List Offer → List Reply
history_replies start offers = reverse (replies_by (history_judged start offers))

abbrev pub history_numbers : Sums → List Offer → List ℕ
history_numbers start offers = map (λ (p : Reply). p.number) (history_replies start offers)

-- the meters: the starting readings plus what the rule works out
abbrev pub history_sums : Sums → List Offer → Sums
history_sums start offers = plus (starting_sums start) (worked_out (history_judged start offers))

-- ---- one more message after a history: its number, its reply, and the slices as it leaves them

abbrev pub next_number : Sums → List Offer → Offer → ℕ
next_number start offers o = (judge (starting_sums start) (history_judged start offers) o).number

-- what governs it: the message itself, or what looking back in the list finds
abbrev pub next_governed : Sums → List Offer → List ℕ → Configuration
next_governed start offers m = governed_by (history_judged start offers) m

-- what is gathered before it
abbrev pub next_gathering : Sums → List Offer → Gathering
next_gathering start offers = gathering_by (history_judged start offers)

abbrev pub next_reply : Sums → List Offer → Offer → Reply
next_reply start offers o = reply_by (history_judged start offers) (judge (starting_sums start) (history_judged start offers) o)

abbrev pub next_slices : Sums → List Offer → List ℕ → Slices → Slices
next_slices start offers m s =
    slices_after m (next_number start offers (offer m (lengths s))) (next_governed start offers m) (next_gathering start offers) s

-- the reply to a set that comes next
abbrev pub next_set_reply : Sums → List Offer → List ℕ → SetReply
next_set_reply start offers octets = replied_to octets (standing_by (starting_sums start) (history_judged start offers))
