-- How the values that the steps of a call pass on are read as the definitions have them: a message, what governs it, and an answer.
use Rattle.std.specs.Prelude.{ℕ, ◌≡◌, List, is_some, IfSome, Result, Ok, Err}
use Rattle.receiver.specs.Message.{channel_of, type_of, timestamp_of, is_last, routes, closes, match_bits, service_of, mode_of, tags_of, data_of}
use Rattle.receiver.specs.Governing.{Configuration}
use Rattle.receiver.specs.Chunk.{Chunk, chunk}
use Rattle.receiver.specs.Record.{configuration_of, Config}
use Rattle.receiver.specs.Effects.{bare_reply}
use Rattle.receiver.specs.Refusal.{refusal_number, number_in}
use Rattle.receiver.specs.Kinds.{type_number, state_of}
use Rattle.receiver.specs.Steps.{no_counts, Done}
use Rattle.receiver.specs.declared.Reply.{Reply}
use Rattle.receiver.specs.declared.draw.Counts.{Counts}
use Rattle.receiver.specs.declared.chunk.Chunk as declared_chunk
use Rattle.receiver.specs.declared.refusal.Refusal.{Refusal}
use Rattle.receiver.specs.declared.incoming.Message.{Message}
use Rattle.receiver.specs.declared.incoming.Routing.{Routing}
use Rattle.receiver.specs.declared.governing.Governing as declared_governing

-- ---- a message

abbrev pub chunk_as : declared_chunk.Chunk → Chunk
chunk_as k = chunk (type_number k.chunk_type) k.section.now

-- what Routing of message m brings
pub record RoutingAs (m : List ℕ) (r : Routing) : Type 0 where
  pub mode : r.mode ≡ mode_of m
  pub service : r.service.0 ≡ service_of m
  pub match : r.match_bits ≡ match_bits m
  pub tags : r.tags.now ≡ tags_of m

-- message m, which passes checks 2 to 5, as it is read
pub record ReadAs (m : List ℕ) (x : Message) : Type 0 where
  pub channel : x.channel.0 ≡ channel_of m
  pub chunk_type : type_number x.chunk.chunk_type ≡ type_of m
  pub timestamp : x.timestamp ≡ timestamp_of m
  pub last : x.last ≡ is_last m
  pub close : x.close ≡ closes m
  pub routes : is_some x.routing ≡ routes m
  pub routing : IfSome x.routing (λ r. RoutingAs m r)
  pub section : x.chunk.section.now ≡ data_of m

-- ---- what governs it

abbrev pub config_of : declared_governing.Governing → Config
config_of g = record { state = state_of g.mode; match_bits = g.match_bits; size = g.size; colours = g.colours }

abbrev pub meaning : declared_governing.Governing → Configuration
meaning g = configuration_of (config_of g) g.area

-- ---- an answer

-- what it counts: nothing in a refusal
abbrev pub counts_in : Result Counts Refusal → Counts
counts_in (Ok counts) = counts
counts_in (Err _) = no_counts

-- what a host is told of it: a refusal has 0 in all but the number
abbrev pub reply_in : Result Reply Refusal → Reply
reply_in (Ok reply) = reply
reply_in (Err r) = bare_reply (refusal_number r)

-- the number of it, with what it counts
abbrev pub done_of : Result Counts Refusal → Done
done_of answer = record { number = number_in answer; counts = counts_in answer }
