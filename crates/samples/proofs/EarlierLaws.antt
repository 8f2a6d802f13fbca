-- Laws of samples one after the other, whose lit ones count once the first h are passed; and of a list of signals that is 25 numbers.
use Prim.Native.Nat.{ℕ, suc, ◌+◌, ◌-◌, ◌*◌, ◌/◌, ◌^◌, ◌<◌, ◌≤◌}
use native.Mathlib.Nat.{zero-mul}
use native.Mathlib.Omega.{arith}
use native.Mathlib.Decide.{dec_le}
use mathlib.Core.Path.{◌≡◌, refl, sym, ◌∙◌}
use mathlib.Core.Bool.{Bool, true, false, cond, ◌||◌}
use mathlib.Core.List.{List}
use mathlib.Core.Logic.{◌⊎◌}
use lib.ListN.{length, get_or, take, length-take, get_or-eq_default}
use lib.Seq.{take_all}
use lib.IntN.{ℤ, pos}
use lib.Dec.{ltb, leb}
use borrow.Author.Tests.{le-leb, lt-leb}
use Rattle.samples.specs.Limits.{colour_limit, row_size}
use Rattle.samples.specs.Roles.{first_octet_of, precision_of, hint_of}
use Rattle.samples.specs.Row.{hint_in, colour_scale, colour_of, lit_of}
use Rattle.samples.specs.Points.{sample_at, behind, lit_in}
use Rattle.samples.specs.PointsLaws.{sample_at-behind, behind-none}
use Rattle.samples.specs.Signals.{Tabled, is_free, value_by}
use Rattle.samples.specs.Plan.{rest_of}
use Rattle.samples.proofs.SlotLaws.{pow-four, value_is}

-- past the first n there is nothing
pub get_or-take_past : (l : List ℕ) (n k : ℕ) → n ≤ k → get_or (take n l) k 0 ≡ 0
get_or-take_past l n k h = get_or-eq_default (take n l) 0 (simp length-take (omega arith))

-- ---- lit samples

-- one sample more behind the first h, or one of them
pub lit-more : (roles octets : List ℕ) (h i b lit : ℕ) (f : Bool) → f ≡ lit_of roles (sample_at roles octets i) → b ≡ cond f 1 0
    → lit ≡ lit_in roles (behind roles h octets) (i - h) → cond (leb h i) (lit + b) 0 ≡ lit_in roles (behind roles h octets) (i + 1 - h)
unfolding lit_in
lit-more roles octets h i b lit f ef eb q = go (dec_le h i)
  where
    go : Dec (h ≤ i) → cond (leb h i) (lit + b) 0 ≡ lit_in roles (behind roles h octets) (i + 1 - h)
    go (yes le) =
        let next : i + 1 - h ≡ suc (i - h) = omega arith in
        let place : h + (i - h) ≡ i = omega arith in
        let at : sample_at roles (behind roles h octets) (i - h) ≡ sample_at roles octets i = sample_at-behind roles octets h (i - h) ∙ rw place refl in
        rw (le-leb h i le, next, at, eb, ef, q) refl
    go (no lt) =
        let still : i + 1 - h ≡ 0 = omega arith in
        rw (lt-leb h i (omega arith), still) refl

bit_le : (f : Bool) (b : ℕ) → b ≡ cond f 1 0 → b ≤ 1
bit_le true b e = omega arith
bit_le false b e = omega arith

-- one sample by itself, behind the first h
module _ (roles octets part : List ℕ) (h i : ℕ) (le : h ≤ i) (e : part ≡ sample_at roles octets i) where
  alone : lit_in roles (behind roles 0 part) 1 ≡ cond (lit_of roles (sample_at roles octets i)) 1 0
  unfolding lit_in
  alone =
      rw (behind-none roles part, zero-mul (length roles), take_all (length roles) part (rw e (simp length-take (omega arith))), e) (omega arith)

  pub lit-one : (r lit : ℕ) → r ≡ lit_in roles (behind roles 0 part) 1 → lit ≡ lit_in roles (behind roles h octets) (i - h)
      → (r ≤ 1) × (lit + r ≡ lit_in roles (behind roles h octets) (i + 1 - h))
  lit-one r lit er q =
      let f = lit_of roles (sample_at roles octets i) in (
        bit_le f r (er ∙ alone),
        sym (rw (le-leb h i le) refl) ∙ lit-more roles octets h i r lit f refl (er ∙ alone) q,
      )

-- ---- a list of 25 numbers

-- the slots, the places of their first octets, those of their precision octets, room for eight of each; and how many there are
abbrev pub list_size : ℕ
list_size = 25

abbrev pub slot_at : List ℕ → ℕ → ℕ
slot_at list j = get_or list j 0

abbrev pub first_at : List ℕ → ℕ → ℕ
first_at list j = get_or list (j + 8) 0

abbrev pub second_at : List ℕ → ℕ → ℕ
second_at list j = get_or list (j + 16) 0

abbrev pub count_of : List ℕ → ℕ
count_of list = get_or list 24 0

-- a list with one signal more at its end, or as it was
pub record Added (list : List ℕ) (wanted : Bool) (s first second : ℕ) (after : List ℕ) : Type 0 where
  pub sized : length after ≡ list_size
  pub counted : count_of after ≡ count_of list + cond wanted 1 0
  pub old : (j : ℕ) → j < count_of list → (slot_at after j ≡ slot_at list j) × (first_at after j ≡ first_at list j) × (second_at after j ≡ second_at list j)
  pub new : wanted ≡ true → (slot_at after (count_of list) ≡ s) × (first_at after (count_of list) ≡ first) × (second_at after (count_of list) ≡ second)

module _ (list : List ℕ) (s first second : ℕ) (l : length list ≡ list_size) where
  pub added_none : Added list false s first second list
  added_none = record { sized = l; counted = omega arith; old = (λ j b. (refl, refl, refl)); new = (λ e. absurd (let z : ◌≡◌ {A = ℕ} 0 1 = cc in omega arith)) }

-- the value by the places of the two octets, and divided by 2 to the power `shift`
abbrev pub value_at : List ℕ → List ℕ → ℕ → ℕ
value_at sample list j = value_by sample (first_at list j) (second_at list j)

abbrev pub scaled_at : ℕ → List ℕ → List ℕ → ℕ → ℕ
scaled_at shift sample list j = value_at sample list j / 2 ^ shift

pub value_at_lem : (sample list : List ℕ) (j first second : ℕ) → first ≡ first_at list j → second ≡ second_at list j → value_by sample first second ≡ value_at sample list j
value_at_lem sample list j first second p q = rw (p, q) refl

-- ---- a colour by the places of its octets

-- a signal of the `count` slots from `start` on, its first octet within the sample, and its precision octet too if it is precise
pub record Signal (places : List ℕ) (width : ℕ) (waves : List ℕ) (start count : ℕ) (precise : Bool) (s first second : ℕ) : Type 0 where
  pub low : start ≤ s
  pub high : s < start + count
  pub free : is_free waves s ≡ true
  pub placed : first ≡ get_or places (first_octet_of s) 0
  pub refined : second ≡ get_or places (precision_of s) 0
  pub within : first < width
  pub known : ltb second width ≡ precise

module _ (roles places sample : List ℕ) (t : Tabled places roles) where
  module _ (waves : List ℕ) (start count : ℕ) (precise : Bool) (s first second : ℕ) (d : Signal places (length roles) waves start count precise s first second) where
    pub scaled_is : 8 ≤ start → start + count ≤ 16 → value_by sample first second / 2 ^ (colour_scale (hint_in roles sample) * 2) ≡ colour_of roles sample (s - 8)
    unfolding colour_of
    scaled_is l b =
        let h : s < row_size = omega (arith, d.high) in
        let e : s - 8 + 8 ≡ s = omega (arith, d.low) in
        rw (value_is roles places sample t s first second h d.placed d.refined d.within, pow-four (colour_scale (hint_in roles sample)), e) refl

-- ---- a colour by a plan

pub record Kind : Type 0 where
  pub fine : List ℕ
  pub coarse : List ℕ

pub record Singles : Type 0 where
  pub hint : ℕ
  pub shutter : Bool
  pub intensity : ℕ
  pub intensity_precision : ℕ
  pub brush : ℕ
  pub brush_precision : ℕ
  pub any : Bool

-- a template row, the signals of each kind in two lists, and the slots that stand alone
pub record Plan : Type 0 where
  pub template : List ℤ
  pub coordinates : Kind
  pub colours : Kind
  pub waves : Kind
  pub singles : Singles

-- slot s is among the first n
pub record Among (list : List ℕ) (n s : ℕ) : Type 0 where
  pub index : ℕ
  pub below : index < n
  pub slot : slot_at list index ≡ s

pub record Listed (places : List ℕ) (width : ℕ) (waves : List ℕ) (start count : ℕ) (precise : Bool) (n : ℕ) (list : List ℕ) : Type 0 where
  pub sized : length list ≡ list_size
  pub short : count_of list ≤ n
  pub each : (j : ℕ) → j < count_of list → Signal places width waves start count precise (slot_at list j) (first_at list j) (second_at list j)

-- the two lists of a kind, as far as its first n slots
pub record Gathered (places : List ℕ) (width : ℕ) (waves : List ℕ) (start count n : ℕ) (fine coarse : List ℕ) : Type 0 where
  pub precise : Listed places width waves start count true n fine
  pub plain : Listed places width waves start count false n coarse
  pub all : (s : ℕ) → start ≤ s → s < start + n → is_free waves s ≡ true → get_or places (first_octet_of s) 0 < width → Among fine (count_of fine) s ⊎ Among coarse (count_of coarse) s

-- the places by a table of them
pub record SinglesBy (places : List ℕ) (width : ℕ) (p : Singles) : Type 0 where
  pub hint : p.hint ≡ cond (ltb (get_or places (hint_of 1) 0) width) (get_or places (hint_of 1) 0) (get_or places (hint_of 0) 0)
  pub shutter : p.shutter ≡ ltb (get_or places (hint_of 1) 0) width
  pub intensity : p.intensity ≡ get_or places (first_octet_of 6) 0
  pub refined : p.intensity_precision ≡ get_or places (precision_of 6) 0
  pub brush : p.brush ≡ get_or places (first_octet_of 7) 0
  pub finer : p.brush_precision ≡ get_or places (precision_of 7) 0
  pub any : p.any ≡ (p.shutter || ltb p.intensity width || ltb p.brush width)

-- the plan is that of the roles and the wavelengths
pub record Planned (p : Plan) (roles waves : List ℕ) : Type 0 where
  pub places : List ℕ
  pub table : Tabled places roles
  pub sized : length p.template ≡ row_size
  pub rests : (s : ℕ) → s < row_size → get_or p.template s (pos 0) ≡ rest_of p.singles.shutter waves s
  pub coordinates : Gathered places (length roles) waves 0 5 5 p.coordinates.fine p.coordinates.coarse
  pub colours : Gathered places (length roles) waves 8 colour_limit colour_limit p.colours.fine p.colours.coarse
  pub wavelengths : Gathered places (length roles) waves 16 colour_limit colour_limit p.waves.fine p.waves.coarse
  pub singles : SinglesBy places (length roles) p.singles

module _ (p : Plan) (roles waves sample : List ℕ) (d : Planned p roles waves) (l : length sample ≡ length roles) where
  hint_is : get_or sample p.singles.hint 0 ≡ hint_in roles sample
  hint_is = rw (d.singles.hint, d.table (hint_of 1) (omega arith), d.table (hint_of 0) (omega arith)) refl

  module _ (hint : ℕ) (e : hint ≡ get_or sample p.singles.hint 0) where
    -- a list of colours
    module _ (precise : Bool) (list : List ℕ) (g : Listed d.places (length roles) waves 8 colour_limit precise colour_limit list) where
      pub scaled_at_lem : (j : ℕ) → j < count_of list → scaled_at (hint / 64 * 2) sample list j ≡ colour_of roles sample (slot_at list j - 8)
      scaled_at_lem j c = rw (e ∙ hint_is) (scaled_is roles d.places sample d.table waves 8 colour_limit precise _ _ _ (g.each j c) (omega arith) (omega arith))
