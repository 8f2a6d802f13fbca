-- The numbers of chunk types and modes, and what a number is read as.
use Rattle.std.specs.Prelude.{ℕ, ◌+◌, ◌≡◌, not, Option, Some, None, Result, IfOk}
use Rattle.tags.specs.Choice.{refuse}
use Rattle.receiver.specs.Modes.{known_mode}
use Rattle.receiver.specs.Chunk.{known_type}
use Rattle.receiver.specs.Refusal.{number_in}
use Rattle.receiver.specs.declared.refusal.Refusal.{Refusal}
use Rattle.receiver.specs.declared.modes.Mode.{Mode}
use Rattle.receiver.specs.declared.modes.Mode.TheVariants as modes
use Rattle.receiver.specs.declared.chunk.ChunkType.{ChunkType}
use Rattle.receiver.specs.declared.chunk.ChunkType.TheVariants as types

abbrev pub mode_number : Mode → ℕ
mode_number modes.Void = 0
mode_number modes.Wave = 1
mode_number modes.Frame = 2
mode_number modes.Effects = 4
mode_number modes.Universe = 6

abbrev pub type_number : ChunkType → ℕ
type_number types.Void = 0
type_number types.Wave = 1
type_number types.Frame = 2
type_number types.First = 3
type_number types.Levels = 0x18
type_number types.Sequel = 0xC0

-- the state of a channel: 0 is closed, and a mode plus 1 is open in that mode
abbrev pub state_of : Option Mode → ℕ
state_of None = 0
state_of (Some mode) = mode_number mode + 1

-- the result is the mode with this number, or refused by 6
abbrev pub ReadsMode : ℕ → Result Mode Refusal → Type 0
ReadsMode n r = (number_in r ≡ refuse (not (known_mode n)) 6) × IfOk r (λ mode. mode_number mode ≡ n)

-- the result is the type with this number, or refused by 4
abbrev pub ReadsType : ℕ → Result ChunkType Refusal → Type 0
ReadsType n r = (number_in r ≡ refuse (not (known_type n)) 4) × IfOk r (λ t. type_number t ≡ n)
