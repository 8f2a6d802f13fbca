-- What the points of a chunk share (document 01, "One row"): a template row, which has what does not differ from point to point; the
-- lists of the signals that do; and the slots that stand alone, shutter, intensity and brush.
use Rattle.std.specs.Prelude.{ℕ, ◌-◌, ◌*◌, ◌%◌, ◌<◌, ◌≡◌, Bool, cond, List, length, get_or, set, ltb, eqb, ℤ, pos, Option, Some, None}
use Rattle.std.specs.Option.{ForSome, option_or}
use Rattle.samples.specs.declared.signals.Signal.{Signal}
use Rattle.samples.specs.declared.plan.Plan.{Plan}
use Rattle.samples.specs.Limits.{colour_limit, row_size}
use Rattle.samples.specs.Roles.{hint_of, first_octet_of}
use Rattle.samples.specs.Row.{intensity_scale}
use Rattle.samples.specs.Signals.{Tabled, signal_of, Gathered, scaled_in}

-- what stands in slot s where nothing in it differs from point to point
unfoldable pub rest_of : Bool → List ℕ → ℕ → ℤ
rest_of shutter waves s =
    cond (eqb s 5) (pos (cond shutter 0 1)) (cond (ltb s 16) (pos 0) (pos (get_or waves (s - 16) 0 * 64)))

-- ---- the slots that stand alone

-- the place of the octet with a role, and the signal of a slot, by a table of places
abbrev pub placed_in : List ℕ → ℕ → ℕ → Option ℕ
placed_in places width role = cond (ltb (get_or places role 0) width) (Some (get_or places role 0)) None

abbrev pub alone_in : List ℕ → ℕ → ℕ → Option Signal
alone_in places width s = cond (ltb (get_or places (first_octet_of s) 0) width) (Some (signal_of places s)) None

-- the hint's octet
unfoldable pub octet_in : Option ℕ → List ℕ → ℕ
octet_in None sample = 0
octet_in (Some place) sample = get_or sample place 0

-- the row with a signal's number, divided by 2 to the power `shift`, if there is the signal
unfoldable pub single_over : Option Signal → ℕ → List ℕ → List ℤ → List ℤ
single_over None shift sample row = row
single_over (Some x) shift sample row = set row x.slot (pos (scaled_in shift sample x))

-- the row with the three slots stored, by the hint's octet h
unfoldable pub singles_over : Plan → ℕ → List ℕ → List ℤ → List ℤ
singles_over p h sample row =
    single_over p.brush 0 sample
    (single_over p.intensity (intensity_scale h * 2) sample (cond p.shutter (set row 5 (pos (h % 2))) row))

-- a signal that can be read and stored, if there is one
abbrev pub SingleFits : Option Signal → ℕ → Type 0
SingleFits single width = ForSome single (λ x. (x.slot < row_size) × (x.first < width))

abbrev pub SinglesFit : Plan → ℕ → Type 0
SinglesFit p width = SingleFits p.intensity width × SingleFits p.brush width

-- ---- the plan

-- the plan is that of the roles and the wavelengths
pub record Planned (p : Plan) (roles waves : List ℕ) : Type 0 where
  pub places : List ℕ
  pub table : Tabled places roles
  pub sized : length p.template ≡ row_size
  pub rests : (s : ℕ) → s < row_size → get_or p.template s (pos 0) ≡ rest_of p.shutter waves s
  pub hint : p.hint ≡ option_or (placed_in places (length roles) (hint_of 1)) (placed_in places (length roles) (hint_of 0))
  pub shutter : p.shutter ≡ ltb (get_or places (hint_of 1) 0) (length roles)
  pub intensity : p.intensity ≡ alone_in places (length roles) 6
  pub brush : p.brush ≡ alone_in places (length roles) 7
  pub coordinates : Gathered places (length roles) waves 0 5 5 p.coordinates
  pub colours : Gathered places (length roles) waves 8 colour_limit colour_limit p.colours
  pub wavelengths : Gathered places (length roles) waves 16 colour_limit colour_limit p.waves

-- the plan is that of some roles and wavelengths, for samples of `width` octets
pub record Ready (p : Plan) (width : ℕ) : Type 0 where
  pub roles : List ℕ
  pub waves : List ℕ
  pub sized : length roles ≡ width
  pub planned : Planned p roles waves
