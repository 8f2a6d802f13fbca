-- How the receiver's record is read, and the consistency rule of check 1 (document 01, "Checks, in order"). Only these readings of
-- a record show in later calls: what governs each channel, the three meters, what is gathered of a frame with the slice lent for it, and
-- whether it is consistent. A host keeps the record as a value or lends its three arrays; either way it is read like this.
use Rattle.std.specs.Prelude.{ℕ, zero, suc, ◌+◌, ◌-◌, ◌*◌, Bool, true, cond, not, ◌&&◌, List, length, get_or, take, drop, ltb, eqb}
use Rattle.tags.specs.Dictionary.{no_sample}
use Rattle.tags.specs.Dimmer.{no_mapping}
use Rattle.tags.specs.Kept.{area_size, sample_in, mapping_in, sizes_fit}
use Rattle.receiver.specs.Modes.{graphic_mode, dimmer_mode, known_mode, channel_count}
use Rattle.receiver.specs.Governing.{Configuration, closed, meant}
use Rattle.receiver.specs.Gathering.{Gathering}
use Rattle.receiver.specs.Meters.{Sums, sums, over_limit}
use Rattle.receiver.specs.Checks.{Standing}
use Rattle.receiver.specs.declared.Receiver.{Receiver}
use Rattle.receiver.specs.declared.gather.Gathered.{Gathered}

-- the record of a host that lends its octets, its meters and the four numbers of what is gathered
abbrev pub record_in : List ℕ → List ℕ → List ℕ → Receiver
record_in channels meters gathered = record { meters = meters; gathered = gathered; channels = channels }

-- ---- where its octets stand: the states of all channels, their match bits, their two sizes, and then the areas, one a channel

abbrev pub match_place : ℕ → ℕ
match_place c = 64 + c

abbrev pub size_place : ℕ → ℕ
size_place c = 128 + c

abbrev pub colours_place : ℕ → ℕ
colours_place c = 192 + c

abbrev pub area_place : ℕ → ℕ
area_place c = 256 + c * area_size

abbrev pub record_size : ℕ
record_size = 6_528

abbrev pub meter_count : ℕ
meter_count = 3

-- What the record holds of one channel besides its area: state 0 is closed, and a mode plus 1 is open in that mode; the sizes are the tag
-- layer's.
pub record Config : Type 0 where
  pub state : ℕ
  pub match_bits : ℕ
  pub size : ℕ
  pub colours : ℕ

-- what octets of a record hold of channel c: its state, match bits and sizes, and its area, which the tag layer reads
abbrev pub config_in : List ℕ → ℕ → Config
config_in channels c =
    record {
      state = get_or channels c 0;
      match_bits = get_or channels (match_place c) 0;
      size = get_or channels (size_place c) 0;
      colours = get_or channels (colours_place c) 0;
    }

abbrev pub area_in : List ℕ → ℕ → List ℕ
area_in channels c = take area_size (drop (area_place c) channels)

abbrev pub config_at : Receiver → ℕ → Config
config_at r c = config_in r.channels c

abbrev pub area_at : Receiver → ℕ → List ℕ
area_at r c = area_in r.channels c

-- ---- what it means

-- state 0 is closed, and a mode plus 1 is open in that mode; of a closed channel the mode is read as 0
abbrev pub open_state : ℕ → Bool
open_state s = not (eqb s 0)

abbrev pub mode_in : ℕ → ℕ
mode_in s = s - 1

-- the area is a layout in modes 1 and 2 and a mapping in 4 and 6; nothing of a closed channel counts
unfoldable pub configuration_of : Config → List ℕ → Configuration
configuration_of k area =
    record {
      is_open = open_state k.state;
      mode = mode_in k.state;
      match = cond (open_state k.state) k.match_bits 0;
      sample = cond (graphic_mode (mode_in k.state)) (sample_in k.size k.colours area) no_sample;
      mapping = cond (dimmer_mode (mode_in k.state)) (mapping_in k.size area) no_mapping;
    }

-- what governs each channel by the record; there are no others, and so they are closed
abbrev pub channels_of : Receiver → ℕ → Configuration
channels_of r c = cond (ltb c channel_count) (configuration_of (config_at r c) (area_at r c)) (meant closed)

-- the three meters
abbrev pub sums_of : Receiver → Sums
sums_of r = sums (get_or r.meters 0 0) (get_or r.meters 1 0) (get_or r.meters 2 0)

-- ---- what is gathered (document 02, C-12): four numbers of the record, and the octets at the start of the assembly slice

abbrev pub gathered_count : ℕ
gathered_count = 4

abbrev pub gathered_in : List ℕ → Gathered
gathered_in l = record { state = get_or l 0 0; count = get_or l 1 0; timestamp = get_or l 2 0; sequel = get_or l 3 0 }

-- state 0 is none, and a channel plus 1 is the channel of the frame
abbrev pub gathering_in : Gathered → List ℕ → Gathering
gathering_in q assembly =
    record {
      is_on = not (eqb q.state 0);
      channel = q.state - 1;
      count = q.count;
      octets = take q.count assembly;
      timestamp = q.timestamp;
      sequel = q.sequel;
    }

abbrev pub gathering_of : Receiver → List ℕ → Gathering
gathering_of r assembly = gathering_in (gathered_in r.gathered) assembly

-- what stands before a message that is offered to it with that slice
abbrev pub standing_of : Receiver → List ℕ → Standing
standing_of r assembly = record { channels = channels_of r; gathering = gathering_of r assembly; sums = sums_of r }

-- ---- check 1: the consistency rule; no value of what is gathered breaks it

-- A channel is consistent where it is closed or open in a mode that there is, and its sizes are within its area (the tag layer's test).
unfoldable pub consistent_at : Config → Bool
consistent_at k = known_mode (mode_in k.state) && sizes_fit k.size k.colours

unfoldable pub consistent_up_to : List ℕ → ℕ → Bool
consistent_up_to channels zero = true
consistent_up_to channels (suc n) = consistent_up_to channels n && consistent_at (config_in channels n)

-- its arrays have their lengths; one that is kept as a value always does
abbrev pub sized : Receiver → Bool
sized r =
    eqb (length r.channels) record_size && (eqb (length r.meters) meter_count && eqb (length r.gathered) gathered_count)

-- it has its lengths, the meters are within their limit and each channel is consistent
unfoldable pub consistent : Receiver → Bool
consistent r = sized r && (not (over_limit (sums_of r)) && consistent_up_to r.channels channel_count)
