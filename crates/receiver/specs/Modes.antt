-- Service modes and services (document 01, "One message"): the tests on a mode alone. What the type of a chunk asks of a mode stands in
-- Chunk.antt, and what a tag asks in the tag layer.
use Rattle.std.specs.Prelude.{ℕ, Bool, not, ◌&&◌, ◌||◌, eqb}

-- modes 1 and 2 have a tag dictionary and samples
abbrev pub graphic_mode : ℕ → Bool
graphic_mode mode = eqb mode 1 || eqb mode 2

-- modes 4 and 6 have dimmer tags and levels
abbrev pub dimmer_mode : ℕ → Bool
dimmer_mode mode = eqb mode 4 || eqb mode 6

-- mode 0 is Void: "its configuration words and chunks are ignored"
abbrev pub void_mode : ℕ → Bool
void_mode mode = eqb mode 0

-- check 6: "the mode is not 0, 1, 2, 4 or 6"
abbrev pub known_mode : ℕ → Bool
known_mode mode = void_mode mode || graphic_mode mode || dimmer_mode mode

-- check 7: "1 is the laser (modes 1, 2, 4), 2 is DMX (mode 6), 0 is the default for the mode. Mode 0 (Void) goes with 0, 1 or 2"
abbrev pub service_fits : ℕ → ℕ → Bool
service_fits mode service = eqb service 0 || eqb service 1 && not (eqb mode 6) || eqb service 2 && (eqb mode 6 || void_mode mode)

-- check 15: the mode that at most one open channel has at a time
abbrev pub exclusive_mode : ℕ → Bool
exclusive_mode mode = eqb mode 1

-- the channels of a receiver: six bits of a message
abbrev pub channel_count : ℕ
channel_count = 64
