-- What the calls of the receiver promise (document 01, "Calls and layers" and "Checks, in order"), for every record, message and slice.
use Rattle.std.specs.Prelude.{ℕ, ◌≡◌, Bool, true, false, cond, ◌&&◌, ◌||◌, List, get_or, eqb}
use Rattle.tags.specs.Choice.{refuse}
use Rattle.receiver.specs.Message.{is_last}
use Rattle.receiver.specs.Governing.{closed, meant}
use Rattle.receiver.specs.Slices.{Slices, lengths}
use Rattle.receiver.specs.Gathering.{no_gathering}
use Rattle.receiver.specs.Meters.{Sums, sums, over_limit}
use Rattle.receiver.specs.Checks.{governs, number_of}
use Rattle.receiver.specs.Effects.{bare_reply, reply_of, of_whole, slices_after, sums_after, governing_after, gathering_after}
use Rattle.receiver.specs.Sets.{set_reply, replied_to, standing_by_set}
use Rattle.receiver.specs.LookBack.{starting_sums}
use Rattle.receiver.specs.Record.{channels_of, sums_of, gathering_of, standing_of, sized, consistent}
use Rattle.receiver.specs.declared.Receiver.{Receiver}
use Rattle.receiver.specs.declared.Outcome.{Outcome}
use Rattle.receiver.specs.declared.Reply.{Reply}
use Rattle.receiver.specs.declared.Readings.{Readings}
use Rattle.receiver.specs.declared.SetReply.{SetReply}
use Rattle.receiver.specs.declared.SetOutcome.{SetOutcome}

-- A call in place leaves the next receiver where the host lent the one before, and hands back the reply: both together are its outcome.
abbrev pub outcome : Receiver → Reply → Outcome
outcome r reply = record { receiver = r; reply = reply }

-- Start: "given a reading above it, replies 23 with a receiver whose readings are all 0. Start's reply is 0 in all but the number, and
-- every channel is closed after it."
abbrev pub start_number : Sums → ℕ
start_number s = refuse (over_limit s) 23

pub record Started (s : Sums) (o : Outcome) : Type 0 where
  pub reply : o.reply ≡ bare_reply (start_number s)
  pub meters : sums_of o.receiver ≡ starting_sums s
  pub channels : (c : ℕ) → channels_of o.receiver c ≡ meant closed
  pub gathering : (a : List ℕ) → gathering_of o.receiver a ≡ no_gathering
  pub sound : consistent o.receiver ≡ true

-- Start on a record that the host lends: the same, where its arrays have their lengths; else nothing is written, and the reply is 1.
pub record StartedOn (s : Sums) (r : Receiver) (o : Outcome) : Type 0 where
  pub started : sized r ≡ true → Started s o
  pub refused : sized r ≡ false → o ≡ outcome r (bare_reply 1)

-- "A call gives a record's three readings as they stand; they are the meters of demand 3."
abbrev pub readings_in : List ℕ → Readings
readings_in meters = record { lit_time = get_or meters 0 0; points = get_or meters 1 0; lit_points = get_or meters 2 0 }

abbrev pub readings_of : Receiver → Readings
readings_of r = readings_in r.meters

-- the meters that readings show
abbrev pub sums_in : Readings → Sums
sums_in q = sums q.lit_time q.points q.lit_points

-- the number of a message: check 1 on the record, then the others with what the record and the assembly slice say
abbrev pub message_number : Receiver → List ℕ → Slices → ℕ
message_number r m s = cond (consistent r) (number_of m (lengths s) (standing_of r s.assembly)) 1

-- an answer with number n may leave another record: an acceptance, 19, and (C-12) what drops a frame that is gathered
abbrev pub changes : List ℕ → ℕ → Bool
changes m n = eqb n 0 || eqb n 19 || eqb n 25 || eqb n 26 || is_last m && of_whole n

-- Message m answered with number n by record r: the reply, the lent slices as they are left, and the next receiver as far as later
-- calls show it: its meters, what governs each channel, what is gathered with the assembly slice as it is left, and whether it is
-- consistent. Every other refusal hands the record back as it came.
pub record AnsweredWith (n : ℕ) (r : Receiver) (m : List ℕ) (s₀ : Slices) (o : Outcome) (s₁ : Slices) : Type 0 where
  pub reply : o.reply ≡ reply_of m n (governs m (channels_of r)) (gathering_of r s₀.assembly)
  pub slices : s₁ ≡ slices_after m n (governs m (channels_of r)) (gathering_of r s₀.assembly) s₀
  pub meters : sums_of o.receiver ≡ sums_after m n (governs m (channels_of r)) (gathering_of r s₀.assembly) (sums_of r)
  pub channels : (c : ℕ) → channels_of o.receiver c ≡ governing_after m n (channels_of r) c
  pub gathering : gathering_of o.receiver s₁.assembly ≡ gathering_after m n (governs m (channels_of r)) (gathering_of r s₀.assembly)
  pub sound : consistent o.receiver ≡ consistent r
  pub kept : changes m n ≡ false → o.receiver ≡ r

-- the answer to message m, lent the slices s₀: that with its number
abbrev pub Answered : Receiver → List ℕ → Slices → Outcome → Slices → Type 0
Answered r m s₀ o s₁ = AnsweredWith (message_number r m s₀) r m s₀ o s₁

-- ---- a set (document 02, C-14)

abbrev pub set_outcome : Receiver → SetReply → SetOutcome
set_outcome r reply = record { receiver = r; reply = reply }

-- its reply: "Check 1 comes first, at place 0", and before the empty list too
abbrev pub set_answer : Receiver → List ℕ → List ℕ → SetReply
set_answer r octets a = cond (consistent r) (replied_to octets (standing_of r a)) (set_reply 0 1)

-- The set in these octets offered to record r: the reply, and the next receiver as far as later calls show it, whatever assembly slice a is
-- lent with them, for a set is lent none. Where all are accepted it shows what the last one left; "On refusal the record is as before".
pub record Patched (r : Receiver) (octets : List ℕ) (o : SetOutcome) : Type 0 where
  pub reply : (a : List ℕ) → o.reply ≡ set_answer r octets a
  pub standing : (a : List ℕ) → standing_of o.receiver a ≡ cond (consistent r) (standing_by_set octets (standing_of r a)) (standing_of r a)
  pub sound : consistent o.receiver ≡ consistent r
  pub kept : eqb o.reply.number 0 ≡ false → o.receiver ≡ r
