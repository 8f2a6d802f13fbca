-- The signals of a sample as a chunk's plan lists them (document 01, "One row"): what differs from point to point is found once, and
-- the signals of one kind stand in two lists, of those with a precision octet and of those without. A place at or past the sample's end
-- reads as 0.
use Rattle.std.specs.Prelude.{ℕ, ◌+◌, ◌-◌, ◌*◌, ◌/◌, ◌^◌, ◌<◌, ◌≤◌, ◌≡◌, Bool, true, false, ◌||◌, List, ◌⊎◌, length, get_or, ltb, eqb, ℤ, pos}
use Rattle.samples.specs.declared.signals.Signal.{Signal}
use Rattle.samples.specs.declared.signals.Kind.{Kind}
use Rattle.samples.specs.Limits.{row_size}
use Rattle.samples.specs.Roles.{first_octet_of, precision_of, place_of}
use Rattle.samples.specs.Row.{signed}

-- ---- places

-- how many places a table of them has: more than the largest role that a slot or the hint has
abbrev pub table_size : ℕ
table_size = 128

-- the table has the place of each role below its size
abbrev pub Tabled : List ℕ → List ℕ → Type 0
Tabled places roles = (k : ℕ) → k < table_size → get_or places k 0 ≡ place_of k roles

-- the signal of slot s by a table of places
abbrev pub signal_of : List ℕ → ℕ → Signal
signal_of places s = record { slot = s; first = get_or places (first_octet_of s) 0; second = get_or places (precision_of s) 0 }

-- ---- the two lists of a kind

-- signal j of a list
abbrev pub signal_at : List Signal → ℕ → Signal
signal_at list j = get_or list j (record { slot = 0; first = 0; second = 0 })

-- slot s is that of one of the first n
pub record Among (list : List Signal) (n s : ℕ) : Type 0 where
  pub index : ℕ
  pub below : index < n
  pub slot : (signal_at list index).slot ≡ s

-- slot s is listed
abbrev pub In : Kind → ℕ → Type 0
In kind s = Among kind.fine (length kind.fine) s ⊎ Among kind.coarse (length kind.coarse) s

-- slot s has no fixed wavelength
unfoldable pub is_free : List ℕ → ℕ → Bool
is_free waves s = ltb s 16 || eqb (get_or waves (s - 16) 0) 0

-- x is a signal of the `count` slots from `start` on, its first octet within the sample, and its precision octet too if it is precise
pub record Found (places : List ℕ) (width : ℕ) (waves : List ℕ) (start count : ℕ) (precise : Bool) (x : Signal) : Type 0 where
  pub low : start ≤ x.slot
  pub high : x.slot < start + count
  pub free : is_free waves x.slot ≡ true
  pub placed : x.first ≡ get_or places (first_octet_of x.slot) 0
  pub refined : x.second ≡ get_or places (precision_of x.slot) 0
  pub within : x.first < width
  pub known : ltb x.second width ≡ precise

pub record Listed (places : List ℕ) (width : ℕ) (waves : List ℕ) (start count : ℕ) (precise : Bool) (n : ℕ) (list : List Signal) : Type 0 where
  pub short : length list ≤ n
  pub each : (j : ℕ) → j < length list → Found places width waves start count precise (signal_at list j)

-- the two lists of a kind, as far as its first n slots
pub record Gathered (places : List ℕ) (width : ℕ) (waves : List ℕ) (start count n : ℕ) (kind : Kind) : Type 0 where
  pub precise : Listed places width waves start count true n kind.fine
  pub plain : Listed places width waves start count false n kind.coarse
  pub all : (s : ℕ) → start ≤ s → s < start + n → is_free waves s ≡ true → get_or places (first_octet_of s) 0 < width → In kind s

-- ---- what is stored

-- a list whose octets can be read without a test
abbrev pub Readable : List Signal → Bool → ℕ → Type 0
Readable list precise width =
    (j : ℕ) → j < length list
    → ((signal_at list j).slot < row_size) × ((signal_at list j).first < width) × (ltb (signal_at list j).second width ≡ precise)

abbrev pub BothReadable : Kind → ℕ → Type 0
BothReadable kind width = Readable kind.fine true width × Readable kind.coarse false width

-- the value by the places of the two octets
abbrev pub value_by : List ℕ → ℕ → ℕ → ℕ
value_by sample first second = get_or sample first 0 * 256 + get_or sample second 0

abbrev pub value_in : List ℕ → Signal → ℕ
value_in sample x = value_by sample x.first x.second

-- with its sign, and divided by 2 to the power `shift`
abbrev pub signed_in : List ℕ → Signal → ℤ
signed_in sample x = signed (value_in sample x)

abbrev pub scaled_in : ℕ → List ℕ → Signal → ℕ
scaled_in shift sample x = value_in sample x / 2 ^ shift

-- Storing the numbers g of the first n signals of a list makes their slots right and keeps right those that are, whatever is right:
-- where slot s is to hold f s, and each of the numbers is what its slot is to hold.
abbrev pub Stored : (Signal → ℤ) → List Signal → ℕ → List ℤ → List ℤ → Type 0
Stored g list n row after =
    (f : ℕ → ℤ) → ((j : ℕ) → j < n → g (signal_at list j) ≡ f (signal_at list j).slot)
    → (s : ℕ) → s < row_size → (get_or row s (pos 0) ≡ f s) ⊎ Among list n s → get_or after s (pos 0) ≡ f s

-- the same of both lists of a kind
abbrev pub BothStored : (Signal → ℤ) → Kind → List ℤ → List ℤ → Type 0
BothStored g kind row after =
    (f : ℕ → ℤ)
    → ((j : ℕ) → j < length kind.fine → g (signal_at kind.fine j) ≡ f (signal_at kind.fine j).slot)
    → ((j : ℕ) → j < length kind.coarse → g (signal_at kind.coarse j) ≡ f (signal_at kind.coarse j).slot)
    → (s : ℕ) → s < row_size → (get_or row s (pos 0) ≡ f s) ⊎ In kind s → get_or after s (pos 0) ≡ f s

-- all of the first n numbers are 0
abbrev pub AllDark : (Signal → ℕ) → List Signal → ℕ → Type 0
AllDark v list n = (j : ℕ) → j < n → v (signal_at list j) ≡ 0

-- r is 0 just where they are
abbrev pub NoneLit : ℕ → (Signal → ℕ) → List Signal → ℕ → Type 0
NoneLit r v list n = (r ≡ 0 → AllDark v list n) × (AllDark v list n → r ≡ 0)

-- and where those of both lists are
abbrev pub BothDark : (Signal → ℕ) → Kind → Type 0
BothDark v kind = AllDark v kind.fine (length kind.fine) × AllDark v kind.coarse (length kind.coarse)

abbrev pub NoneLitIn : ℕ → (Signal → ℕ) → Kind → Type 0
NoneLitIn r v kind = (r ≡ 0 → BothDark v kind) × (BothDark v kind → r ≡ 0)
