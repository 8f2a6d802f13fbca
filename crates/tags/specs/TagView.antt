-- What a Tag of src/tag.rt is read from: each case in the numbers of specs/Tag.antt.
use Rattle.std.specs.Prelude.{ℕ, false, ◌≡◌, ◌+◌, ◌<◌, ◌≤◌, ◌/◌, ◌%◌, not, eqb, Bool, Result, IfOk}
use Rattle.tags.specs.Choice.{refuse, first}
use Rattle.tags.specs.Refusal.{number_in}
use Rattle.tags.specs.Tag.{defined_group, known_tag, refused_tag}
use Rattle.tags.specs.declared.refusal.Refusal.{Refusal}
use Rattle.tags.specs.declared.tag.Signal as declared_signal
use Rattle.tags.specs.declared.tag.Signal.TheVariants.{X, Y, Z, SecondX, SecondY, Intensity, Brush}
use Rattle.tags.specs.declared.tag.HintFormat as declared_hint
use Rattle.tags.specs.declared.tag.HintFormat.TheVariants.{Scales, ScalesAndShutter}
use Rattle.tags.specs.declared.tag.Tag as declared_tag
use Rattle.tags.specs.declared.tag.Tag.TheVariants.{Skip, Space, Nop, Precision, Hint, Signal, Colour, PrefixedColour, Prefix, Unknown}

-- the slot of a signal, and its tag
abbrev pub slot_of : declared_signal.Signal → ℕ
slot_of X = 0
slot_of Y = 1
slot_of Z = 2
slot_of SecondX = 3
slot_of SecondY = 4
slot_of Intensity = 6
slot_of Brush = 7

abbrev pub signal_tag : declared_signal.Signal → ℕ
signal_tag X = 0x4200
signal_tag Y = 0x4210
signal_tag Z = 0x4220
signal_tag SecondX = 0x4201
signal_tag SecondY = 0x4211
signal_tag Intensity = 0x5C10
signal_tag Brush = 0x5C20

abbrev pub hint_number : declared_hint.HintFormat → ℕ
hint_number Scales = 0
hint_number ScalesAndShutter = 1

-- the words that each is read from
abbrev pub IsTagOf : ℕ → declared_tag.Tag → Type 0
IsTagOf w (Skip n) = (w < 256) × (n ≡ w % 16)
IsTagOf w (Space v) = (w / 256 ≡ 0x11) × (v ≡ w)
IsTagOf w Nop = w ≡ 0x4000
IsTagOf w Precision = w ≡ 0x4010
IsTagOf w (Hint f) = w ≡ 0x4100 + hint_number f
IsTagOf w (Signal s) = w ≡ signal_tag s
IsTagOf w (Colour v) = (0x5001 ≤ w) × (w < 0x5400) × (v ≡ w % 1024)
IsTagOf w PrefixedColour = w ≡ 0x5000
IsTagOf w Prefix = w ≡ 0x5C00
IsTagOf w Unknown = (256 ≤ w) × (known_tag w ≡ false)

-- check 9 refuses it in that mode, and not in mode 1
abbrev pub barred_by : declared_tag.Tag → ℕ → Bool
barred_by (Hint ScalesAndShutter) mode = not (eqb mode 1)
barred_by _ mode = false

-- the tag of a word that check 8 lets through, and check 9 in mode 1
abbrev pub Reads : ℕ → Result declared_tag.Tag Refusal → Type 0
Reads w r = (number_in r ≡ first (refuse (not (defined_group w)) 8) (refuse (refused_tag 1 w) 9)) × IfOk r (λ t. IsTagOf w t)
