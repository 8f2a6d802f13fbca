-- What a chunk asks for, beside the tests of Chunk.antt.
use Rattle.std.specs.Prelude.{ℕ, ◌+◌, ◌≡◌, ◌≤◌, Bool, true, false, cond, length}
use Rattle.receiver.specs.Message.{sequel_type}
use Rattle.receiver.specs.Governing.{Configuration}
use Rattle.receiver.specs.Chunk.{is_drawing, is_dimming, is_fragment}
use Rattle.receiver.specs.Checks.{most_octets}
use Rattle.receiver.specs.Kinds.{type_number}
use Rattle.receiver.specs.declared.gather.Gathered.{Gathered}
use Rattle.receiver.specs.declared.incoming.Message.{Message}
use Rattle.receiver.specs.declared.work.Work.{Work}
use Rattle.receiver.specs.declared.work.Work.TheVariants.{Nothing, Draw, Dim, Gather}

abbrev pub draws : Work → Bool
draws Nothing = false
draws Draw = true
draws Dim = false
draws Gather = false

abbrev pub dims : Work → Bool
dims Nothing = false
dims Draw = false
dims Dim = true
dims Gather = false

abbrev pub gathers : Work → Bool
gathers Nothing = false
gathers Draw = false
gathers Dim = false
gathers Gather = true

-- it is what a chunk of type t asks for, governed by v
pub record WorkOf (w : Work) (t : ℕ) (v : Configuration) : Type 0 where
  pub drawing : is_drawing t v ≡ draws w
  pub dimming : is_dimming t v ≡ dims w
  pub fragment : is_fragment t v ≡ gathers w

-- where the octets of message x end in the assembly slice, behind those that are gathered if it is a sequel
abbrev pub end_behind : Gathered → Message → ℕ
end_behind q x = cond (sequel_type (type_number x.chunk.chunk_type)) q.count 0 + length x.chunk.section.now

-- a slice of so many octets has room for the fragment that it asks to gather, and a frame of no more than the most octets
pub record HasRoom (w : Work) (x : Message) (q : Gathered) (assembly : ℕ) : Type 0 where
  pub within : gathers w ≡ true → end_behind q x ≤ assembly
  pub few : gathers w ≡ true → end_behind q x ≤ most_octets
