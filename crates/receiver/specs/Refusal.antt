-- The numbers of what refuses a message: those of the checks. 8 to 14 are the tag layer's.
use Rattle.std.specs.Prelude.{ℕ, Result, Ok, Err}
use Rattle.tags.specs.declared.refusal.Refusal as tags_refusal
use Rattle.tags.specs.Refusal as tags_numbers
use Rattle.receiver.specs.declared.refusal.Refusal.{Refusal}
use Rattle.receiver.specs.declared.refusal.Refusal.TheVariants.{Record, Length, TopBit, ChunkType, PastEnd, Mode, Service, Tags, Held, Closed, Mismatch, Data, MatchBits, Samples, Levels, Room, Meter, Stray, Timestamp, Assembly}

abbrev pub refusal_number : Refusal → ℕ
refusal_number Record = 1
refusal_number Length = 2
refusal_number TopBit = 3
refusal_number ChunkType = 4
refusal_number PastEnd = 5
refusal_number Mode = 6
refusal_number Service = 7
refusal_number (Tags r) = tags_numbers.refusal_number r
refusal_number Held = 15
refusal_number Closed = 16
refusal_number Mismatch = 17
refusal_number Data = 18
refusal_number MatchBits = 19
refusal_number Samples = 20
refusal_number Levels = 21
refusal_number Room = 22
refusal_number Meter = 23
refusal_number Stray = 24
refusal_number Timestamp = 25
refusal_number Assembly = 26

abbrev pub of_tags : tags_refusal.Refusal → Refusal
of_tags r = Tags r

-- the number that a check answers: 0 where it refuses nothing
abbrev pub number_in : {A : Type 0} → Result A Refusal → ℕ
number_in (Ok _) = 0
number_in (Err r) = refusal_number r
