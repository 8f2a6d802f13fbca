-- A frame that comes in fragments (document 02, C-12; 003, 2.1): what is gathered of it, and the whole that its last fragment completes.
-- "One frame at a time is gathered, header first, at the start of a lent assembly slice". What a message does to it stands in Effects.antt.
use Rattle.std.specs.Prelude.{ℕ, ◌+◌, ◌%◌, Bool, true, false, cond, ◌&&◌, List, [], ◌++◌, length, eqb}
use Rattle.receiver.specs.Message.{channel_of, type_of, timestamp_of, is_sequel, is_last, data_of}
use Rattle.receiver.specs.Governing.{Configuration}
use Rattle.receiver.specs.Chunk.{Chunk, chunk, chunk_of, is_fragment}

-- What is gathered, if anything: the channel of the frame, how many octets so far and which, the timestamp of its first fragment, and the
-- number of the next sequel, as far as 32 bits tell it. In a history there are as many octets as are counted (proofs/GatheredLaws.antt:
-- gathering_by-count); a slice that is lent too short holds fewer, and check 26 reads the count.
pub record Gathering : Type 0 where
  pub is_on : Bool
  pub channel : ℕ
  pub count : ℕ
  pub octets : List ℕ
  pub timestamp : ℕ
  pub sequel : ℕ

abbrev pub no_gathering : Gathering
no_gathering = record { is_on = false; channel = 0; count = 0; octets = []; timestamp = 0; sequel = 0 }

-- a frame is gathered on channel c
abbrev pub gathers_on : Gathering → ℕ → Bool
gathers_on w c = w.is_on && eqb c w.channel

-- "a timestamp of the first plus their number from 1 (wrapping at 32 bits)"
abbrev pub wrap : ℕ
wrap = 4_294_967_296

abbrev pub next_timestamp : Gathering → ℕ
next_timestamp w = (w.timestamp + w.sequel) % wrap

-- ---- a fragment, after those before it: a first fragment begins, and a sequel goes on

-- where its octets come to stand in the assembly slice, and where they end
abbrev pub place_in : List ℕ → Gathering → ℕ
place_in m w = cond (is_sequel m) w.count 0

abbrev pub end_in : List ℕ → Gathering → ℕ
end_in m w = place_in m w + length (data_of m)

-- the octets so far, with its own
abbrev pub so_far : List ℕ → Gathering → List ℕ
so_far m w = cond (is_sequel m) w.octets [] ++ data_of m

-- what is gathered with it
abbrev pub grown : List ℕ → Gathering → Gathering
grown m w =
    record {
      is_on = true;
      channel = channel_of m;
      count = end_in m w;
      octets = so_far m w;
      timestamp = cond (is_sequel m) w.timestamp (timestamp_of m);
      sequel = cond (is_sequel m) ((w.sequel + 1) % wrap) 1;
    }

-- ---- the whole

-- it is the last fragment of a frame in mode 2
abbrev pub completes : List ℕ → Configuration → Bool
completes m v = is_last m && is_fragment (type_of m) v

-- The chunk that checks 20 to 23 are tried on, and that is drawn: "After the last fragment the whole is checked by 20 to 23 and drawn as
-- 0x02"; of every other message its own, which is nothing to draw where it is a fragment.
unfoldable pub whole_of : List ℕ → Configuration → Gathering → Chunk
whole_of m v w = cond (completes m v) (chunk 2 (so_far m w)) (chunk_of m)
