-- What the steps of a call promise to each other; the calls of the receiver rest on them, and no host reads them.
use Rattle.std.specs.Prelude.{ℕ, zero, suc, ◌+◌, ◌≡◌, Bool, true, false, cond, not, ◌&&◌, ◌||◌, List, [], ◌∷◌, get_or, set, replicate, eqb}
use Rattle.tags.specs.Choice.{refuse, first}
use Rattle.tags.specs.Kept.{octets_put}
use Rattle.receiver.specs.Message.{top_bit, channel_of, type_of, is_last, closes}
use Rattle.receiver.specs.Governing.{Configuration, routed_to, meant}
use Rattle.receiver.specs.Slices.{Slices, lengths}
use Rattle.receiver.specs.Chunk.{Chunk, chunk, chunk_of, is_fragment, points_of, lit_points_of, levels_of}
use Rattle.receiver.specs.Gathering.{end_in, grown, completes, whole_of}
use Rattle.receiver.specs.Meters.{Sums, added_by}
use Rattle.receiver.specs.Checks.{wrong_length, routing_number, governs, number_of, whole_number}
use Rattle.receiver.specs.Effects.{drawn, slices_after, takes, drops}
use Rattle.receiver.specs.Sets.{member_number, standing_after}
use Rattle.receiver.specs.Record.{record_in, match_place, size_place, colours_place, area_place, record_size, open_state, mode_in, configuration_of, channels_of, gathering_in, gathering_of, standing_of, consistent_at, consistent, Config}
use Rattle.receiver.specs.declared.Receiver.{Receiver}
use Rattle.receiver.specs.declared.Readings.{Readings}
use Rattle.receiver.specs.declared.gather.Gathered.{Gathered}
use Rattle.receiver.specs.declared.draw.Counts.{Counts}

-- ---- the meters as an array

abbrev pub meters_by : Readings → List ℕ
meters_by q = q.lit_time ∷ q.points ∷ q.lit_points ∷ []

-- ---- what is gathered as an array

abbrev pub gathered_by : Gathered → List ℕ
gathered_by q = q.state ∷ q.count ∷ q.timestamp ∷ q.sequel ∷ []

abbrev pub no_gathered : Gathered
no_gathered = record { state = 0; count = 0; timestamp = 0; sequel = 0 }

-- ---- start

-- a receiver newly started: every channel closed, the meters as given
unfoldable pub fresh_channels : List ℕ
fresh_channels = replicate record_size 0

abbrev pub fresh : Sums → Receiver
fresh s = record_in fresh_channels (s.lit_time ∷ s.points ∷ s.lit_points ∷ []) (gathered_by no_gathered)

-- ---- what governs a message

-- a number, and where it is 0 what governs
pub record Found : Type 0 where
  pub number : ℕ
  pub config : Config

-- Routing: the number of checks 6 to 14, and where it is 0 a sound configuration that with its area means what the routing brings
pub record RoutedTo (mode service match : ℕ) (tags : List ℕ) (f : Found) (area : List ℕ) : Type 0 where
  pub number : f.number ≡ routing_number mode service tags
  pub config : f.number ≡ 0 → configuration_of f.config area ≡ meant (routed_to mode service match tags)
  pub sound : f.number ≡ 0 → consistent_at f.config ≡ true

-- check 15, read off the octets of the record: one of the first n channels, other than c, is open in the mode
unfoldable pub held_states : List ℕ → ℕ → ℕ → ℕ → Bool
held_states channels mode c zero = false
held_states channels mode c (suc n) =
    held_states channels mode c n
    || not (eqb n c) && (open_state (get_or channels n 0) && eqb (mode_in (get_or channels n 0)) mode)

-- ---- a fragment

-- the message's own number is 0 and it is a fragment, in mode 2
abbrev pub taken : ℕ → List ℕ → Configuration → Bool
taken own m v = eqb own 0 && is_fragment (type_of m) v

-- what the record holds of a gathered frame with fragment m more
abbrev pub grown_in : List ℕ → Gathered → Gathered
grown_in m q =
    let w = gathering_in q [] in
    record { state = channel_of m + 1; count = end_in m w; timestamp = (grown m w).timestamp; sequel = (grown m w).sequel }

-- what the record holds of a gathered frame after message m, answered with n and governed by v
unfoldable pub gathered_after : List ℕ → ℕ → Configuration → Gathered → Gathered
gathered_after m n v q =
    cond (takes m n v && not (is_last m || closes m)) (grown_in m q) (cond (drops m n v (gathering_in q [])) no_gathered q)

-- ---- what is drawn

-- what an accepted chunk adds to the meters, and the levels that it writes
abbrev pub counts_of : Chunk → Configuration → Counts
counts_of k v =
    record {
      lit_time = (added_by k v).lit_time;
      points = points_of k v;
      lit_points = lit_points_of k v;
      levels = levels_of k v;
    }

abbrev pub no_counts : Counts
no_counts = record { lit_time = 0; points = 0; lit_points = 0; levels = 0 }

-- what a chunk adds and writes in a message answered with number n: nothing in a refusal
abbrev pub counts_with : ℕ → Chunk → Configuration → Counts
counts_with n k v = cond (eqb n 0) (counts_of k v) no_counts

-- the whole of a message, with the frame that it completes given
abbrev pub whole_in : List ℕ → Configuration → List ℕ → Chunk
whole_in m v frame = cond (completes m v) (chunk 2 frame) (chunk_of m)

-- what a message is answered with, and its counts
pub record Done : Type 0 where
  pub number : ℕ
  pub counts : Counts

-- Chunk k, governed by v, of a message whose own number is given: where that is 0 it is tried by 20 to 23 and drawn. The number that the
-- message is answered with, its counts, and the slices; the assembly slice is left alone.
pub record Concluded (own : ℕ) (k : Chunk) (v : Configuration) (sums : Sums) (s₀ : Slices) (d : Done) (s₁ : Slices) : Type 0 where
  pub number : d.number ≡ first own (whole_number k v (lengths s₀) sums)
  pub counts : d.counts ≡ counts_with d.number k v
  pub slices : s₁ ≡ cond (eqb d.number 0) (drawn k v s₀) s₀

-- Message m, which checks 2 to 14 let pass, by record r: its number, its counts, and the slices as they are left
pub record Handled (r : Receiver) (m : List ℕ) (s₀ : Slices) (d : Done) (s₁ : Slices) : Type 0 where
  pub number : d.number ≡ number_of m (lengths s₀) (standing_of r s₀.assembly)
  pub counts : d.counts ≡ counts_with d.number (whole_of m (governs m (channels_of r)) (gathering_of r s₀.assembly)) (governs m (channels_of r))
  pub slices : s₁ ≡ slices_after m d.number (governs m (channels_of r)) (gathering_of r s₀.assembly) s₀

-- ---- what is kept

-- the octets of a record in which channel c holds k and the area
abbrev pub stored_in : List ℕ → ℕ → Config → List ℕ → List ℕ
stored_in channels c k area =
    octets_put
    (set (set (set (set channels c k.state) (match_place c) k.match_bits) (size_place c) k.size) (colours_place c) k.colours)
    (area_place c) area

-- a configuration with its channel closed by Close
abbrev pub closed_by : Bool → Config → Config
closed_by closing k =
    record { state = cond closing 0 k.state; match_bits = k.match_bits; size = k.size; colours = k.colours }

-- The octets of a record after a message on channel c, answered with n: an accepted Routing stores what governs it, Close and 19 close
-- the channel, and nothing else is written.
unfoldable pub settled_in : ℕ → Bool → Bool → ℕ → Config → List ℕ → List ℕ → List ℕ
settled_in n routing closing c k area channels =
    cond (eqb n 0 && routing)
    (stored_in channels c (closed_by closing k) area)
    (cond (eqb n 19 || eqb n 0 && closing) (set channels c 0) channels)

-- the meters after it, from what they were
abbrev pub risen_from : Readings → Counts → List ℕ
risen_from q d = (q.lit_time + d.lit_time) ∷ (q.points + d.points) ∷ (q.lit_points + d.lit_points) ∷ []

-- ---- a set (document 02, C-14)

-- the number of a message that is not of type 0x00
abbrev pub foreign_number : List ℕ → ℕ
foreign_number m = first (refuse (wrong_length m) 2) (first (refuse (eqb (top_bit m) 0) 3) 4)

-- Message m of a set offered to record r, which is left as r₁: its number, and what an accepted one leaves; the meters stay.
pub record MemberOf (r : Receiver) (m : List ℕ) (n : ℕ) (r₁ : Receiver) : Type 0 where
  pub number : (a : List ℕ) → n ≡ member_number m (standing_of r a)
  pub standing : n ≡ 0 → (a : List ℕ) → standing_of r₁ a ≡ standing_after m (standing_of r a)
  pub sound : consistent r₁ ≡ true
  pub meters : r₁.meters ≡ r.meters
