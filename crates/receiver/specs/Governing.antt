-- What governs a message on a channel (document 01, "One message" and "Meters and the look-back rule").
use Rattle.std.specs.Prelude.{ℕ, Bool, true, false, cond, List, []}
use Rattle.tags.specs.Dictionary.{Sample, no_sample, dictionary_sample}
use Rattle.tags.specs.Dimmer.{Mapping, no_mapping, dimmer_mapping}
use Rattle.receiver.specs.Message.{mode_of, service_of, match_bits, tags_of}
use Rattle.receiver.specs.Modes.{graphic_mode, dimmer_mode}

-- What the paper names: "its mode, service, SDM and tags govern"; or the channel is closed.
pub record Governing : Type 0 where
  pub is_open : Bool
  pub mode : ℕ
  pub service : ℕ
  pub match : ℕ
  pub tags : List ℕ

abbrev pub closed : Governing
closed = record { is_open = false; mode = 0; service = 0; match = 0; tags = [] }

-- what Routing to a mode on a service with match bits and tags brings
abbrev pub routed_to : ℕ → ℕ → ℕ → List ℕ → Governing
routed_to mode service match tags = record { is_open = true; mode = mode; service = service; match = match; tags = tags }

-- what a message with Routing brings
abbrev pub routed_by : List ℕ → Governing
routed_by m = routed_to (mode_of m) (service_of m) (match_bits m) (tags_of m)

-- What is read of it for a message: the tags by what they say, the service not at all once check 7 has passed it. The record of the
-- receiver is read as this too.
pub record Configuration : Type 0 where
  pub is_open : Bool
  pub mode : ℕ
  pub match : ℕ
  pub sample : Sample
  pub mapping : Mapping

-- tags are a dictionary in modes 1 and 2, dimmer tags in modes 4 and 6, and ignored in mode 0
unfoldable pub meant : Governing → Configuration
meant v =
    record {
      is_open = v.is_open;
      mode = v.mode;
      match = v.match;
      sample = cond (graphic_mode v.mode) (dictionary_sample v.mode v.tags) no_sample;
      mapping = cond (dimmer_mode v.mode) (dimmer_mapping v.tags) no_mapping;
    }
