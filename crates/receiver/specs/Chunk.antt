-- What a chunk holds (document 01, "Chunks"; 003, 5): a flags octet with SCM in bits 2-3, three octets that are the Duration of a wave
-- or frame, then samples or levels.
use Rattle.std.specs.Prelude.{ℕ, ◌+◌, ◌*◌, ◌/◌, ◌%◌, Bool, cond, ◌&&◌, ◌||◌, List, length, drop, eqb}
use Rattle.tags.specs.Dictionary.{Sample}
use Rattle.tags.specs.Rows.{points_by, lit_points_by, behind_by}
use Rattle.tags.specs.Levels.{levels_written}
use Rattle.receiver.specs.Message.{octet, type_of, sequel_type, data_of}
use Rattle.receiver.specs.Modes.{dimmer_mode}
use Rattle.receiver.specs.Governing.{Configuration}

-- a chunk: its type, and its octets from the flags on
pub record Chunk : Type 0 where
  pub type : ℕ
  pub octets : List ℕ

abbrev pub chunk : ℕ → List ℕ → Chunk
chunk t octets = record { type = t; octets = octets }

-- the chunk of a message is its data section
abbrev pub chunk_of : List ℕ → Chunk
chunk_of m = chunk (type_of m) (data_of m)

-- ---- types: 0x00 Void, 0x01 wave in mode 1, 0x02 frame in mode 2, 0x18 dimmer levels in modes 4 and 6; C-12: 0x03 the first fragment of
-- a frame and 0xC0 its sequels

abbrev pub void_type : ℕ → Bool
void_type t = eqb t 0

-- C-12: "Large frames come as type 0x03 and then 0xC0"
abbrev pub fragment_type : ℕ → Bool
fragment_type t = eqb t 3 || sequel_type t

-- check 4: "The type is not 0x00, 0x01, 0x02 or 0x18"; C-12: "Check 4 lets both types in"
abbrev pub known_type : ℕ → Bool
known_type t = void_type t || eqb t 1 || eqb t 2 || eqb t 0x18 || fragment_type t

abbrev pub is_drawing : ℕ → Configuration → Bool
is_drawing t v = eqb t 1 && eqb v.mode 1 || eqb t 2 && eqb v.mode 2

abbrev pub is_dimming : ℕ → Configuration → Bool
is_dimming t v = eqb t 0x18 && dimmer_mode v.mode

-- C-12: "both go with mode 2"
abbrev pub is_fragment : ℕ → Configuration → Bool
is_fragment t v = fragment_type t && eqb v.mode 2

-- ---- fields

abbrev pub scm : Chunk → ℕ
scm k = octet k.octets 0 / 16 % 4

abbrev pub duration : Chunk → ℕ
duration k = octet k.octets 1 * 65536 + octet k.octets 2 * 256 + octet k.octets 3

-- the samples or levels
abbrev pub body : Chunk → List ℕ
body k = drop 4 k.octets

-- ---- counts

-- points of a wave or frame, else 0
unfoldable pub points_of : Chunk → Configuration → ℕ
points_of k v = cond (is_drawing k.type v) (points_by v.sample (body k)) 0

-- C-11: "a frame's first sample only moves the mirrors (003, 5.2)": how many samples of a wave or frame, from the first, do that
abbrev pub start_samples : ℕ → ℕ
start_samples t = cond (eqb t 2) 1 0

-- the lit points of a chunk whose samples are as s says: C-11, "That point now counts among the points but never as lit"
abbrev pub lit_points_for : Chunk → Sample → ℕ
lit_points_for k s = lit_points_by s (behind_by s (start_samples k.type) (body k))

-- lit points of a wave or frame, else 0
unfoldable pub lit_points_of : Chunk → Configuration → ℕ
lit_points_of k v = cond (is_drawing k.type v) (lit_points_for k v.sample) 0

-- the levels that dimmer levels write, else 0
unfoldable pub levels_of : Chunk → Configuration → ℕ
levels_of k v = cond (is_dimming k.type v) (levels_written v.mapping (length (body k))) 0
