-- The numbers of what the tag layer refuses: 5 and 6 of the host's call, 8 to 12 of dictionaries, 13 and 14 of dimmer tags.
use Rattle.std.specs.Prelude.{ℕ, Result, Ok, Err}
use Rattle.tags.specs.declared.refusal.Refusal.{Refusal}
use Rattle.tags.specs.declared.refusal.Refusal.TheVariants.{OctetCount, Mode, Undefined, Barred, Misplaced, Repeated, Incomplete, BadDimmerTag, Clash}

abbrev pub refusal_number : Refusal → ℕ
refusal_number OctetCount = 5
refusal_number Mode = 6
refusal_number Undefined = 8
refusal_number Barred = 9
refusal_number Misplaced = 10
refusal_number Repeated = 11
refusal_number Incomplete = 12
refusal_number BadDimmerTag = 13
refusal_number Clash = 14

-- the number that a check answers: 0 where it refuses nothing
abbrev pub number_in : {A : Type 0} → Result A Refusal → ℕ
number_in (Ok _) = 0
number_in (Err r) = refusal_number r
