-- What each slot holds: by its kind, by the octets of a signal that is listed, and where no octet says anything else.
use Prim.Native.Nat.{ℕ, zero, suc, ◌+◌, ◌-◌, ◌*◌, ◌^◌, ◌<◌, ◌≤◌}
use native.Mathlib.Nat.{zero-div, div-one, pow-succ'}
use native.Mathlib.Omega.{arith}
use native.Mathlib.Decide.{dec_lt, ℕ_discrete}
use mathlib.Core.Path.{◌≡◌, refl, sym, ◌∙◌, ap}
use mathlib.Core.Bool.{Bool, true}
use mathlib.Core.List.{List}
use lib.ListN.{length, get_or}
use lib.Pow.{pow-add}
use lib.IntN.{pos}
use borrow.Author.Tests.{lt-ltb, le-ltb, eq-eqb, ne_eqb, eqb-true}
use Rattle.samples.specs.declared.signals.Signal.{Signal}
use Rattle.samples.specs.Limits.{row_size}
use Rattle.samples.specs.Roles.{first_octet_of, precision_of, place_of}
use Rattle.samples.specs.Row.{value_of, signed, hint_in, colour_scale, colour_of, wave_of, slot_of}
use Rattle.samples.specs.Signals.{Tabled, is_free, Found, value_by, value_in, signed_in, scaled_in}
use Rattle.samples.specs.Plan.{rest_of}

-- 2 to the power 2 c is 4 to the power c
pub pow-four : (c : ℕ) → 2 ^ (c * 2) ≡ 4 ^ c
pow-four zero = refl
pow-four (suc c) =
    let e : suc c * 2 ≡ 2 + c * 2 = omega arith in
    rw (e, pow-add 2 2 (c * 2), pow-four c) (sym (pow-succ' 4 c))

-- ---- by the kind of a slot

pub by_slot : (P : ℕ → Type 0) → ((k : ℕ) → k < 5 → P k) → P 5 → P 6 → P 7 → ((k : ℕ) → 8 ≤ k → k < 16 → P k) → ((k : ℕ) → 16 ≤ k → k < row_size → P k) → (k : ℕ) → k < row_size → P k
by_slot P a b c d e f k h = go (dec_lt k 5) (ℕ_discrete k 5) (ℕ_discrete k 6) (ℕ_discrete k 7) (dec_lt k 16)
  where
    go : Dec (k < 5) → Dec (k ≡ 5) → Dec (k ≡ 6) → Dec (k ≡ 7) → Dec (k < 16) → P k
    go (yes q) x y z u = a k q
    go (no n) (yes q) y z u = rw q b
    go (no n) (no n') (yes q) z u = rw q c
    go (no n) (no n') (no n'') (yes q) u = rw q d
    go (no n) (no n') (no n'') (no m) (yes q) = e k (omega arith) q
    go (no n) (no n') (no n'') (no m) (no q) = f k (omega arith) h

-- a slot's number by its kind
module _ (roles waves sample : List ℕ) (k : ℕ) where
  pub slot-coordinate : k < 5 → slot_of roles waves sample k ≡ signed (value_of roles sample k)
  unfolding slot_of
  slot-coordinate h = rw (lt-ltb k 5 h) refl

  pub slot-colour : 8 ≤ k → k < 16 → slot_of roles waves sample k ≡ pos (colour_of roles sample (k - 8))
  unfolding slot_of
  slot-colour l h =
      rw (le-ltb k 5 (omega arith), ne_eqb k 5 (λ q. omega arith), ne_eqb k 6 (λ q. omega arith), ne_eqb k 7 (λ q. omega arith), lt-ltb k 16 h) refl

  slot-wave : 16 ≤ k → slot_of roles waves sample k ≡ pos (wave_of roles waves sample (k - 16))
  unfolding slot_of
  slot-wave l =
      rw (le-ltb k 5 (omega arith), ne_eqb k 5 (λ q. omega arith), ne_eqb k 6 (λ q. omega arith), ne_eqb k 7 (λ q. omega arith), le-ltb k 16 l) refl

  pub slot-free : 16 ≤ k → get_or waves (k - 16) 0 ≡ 0 → slot_of roles waves sample k ≡ pos (value_of roles sample k)
  unfolding wave_of
  slot-free l e = let q : k - 16 + 16 ≡ k = omega arith in slot-wave l ∙ rw (eq-eqb (get_or waves (k - 16) 0) 0 e, q) refl

  pub slot-fixed : 16 ≤ k → (get_or waves (k - 16) 0 ≡ 0 → ⊥) → slot_of roles waves sample k ≡ pos (get_or waves (k - 16) 0 * 64)
  unfolding wave_of
  slot-fixed l ne = slot-wave l ∙ rw (ne_eqb (get_or waves (k - 16) 0) 0 ne) refl

-- what the template has, by the kind of a slot
module _ (flag : Bool) (waves : List ℕ) (k : ℕ) where
  pub rest-early : (k ≡ 5 → ⊥) → k < 16 → rest_of flag waves k ≡ pos 0
  unfolding rest_of
  rest-early ne h = rw (ne_eqb k 5 ne, lt-ltb k 16 h) refl

  pub rest-late : 16 ≤ k → rest_of flag waves k ≡ pos (get_or waves (k - 16) 0 * 64)
  unfolding rest_of
  rest-late l = rw (ne_eqb k 5 (λ q. omega arith), le-ltb k 16 l) refl

-- which slots have no fixed wavelength
module _ (waves : List ℕ) (s : ℕ) where
  pub free-early : s < 16 → is_free waves s ≡ true
  unfolding is_free
  free-early h = rw (lt-ltb s 16 h) refl

  pub free-late : 16 ≤ s → get_or waves (s - 16) 0 ≡ 0 → is_free waves s ≡ true
  unfolding is_free
  free-late h e = rw (le-ltb s 16 h) (eq-eqb _ 0 e)

  free-none : 16 ≤ s → is_free waves s ≡ true → get_or waves (s - 16) 0 ≡ 0
  unfolding is_free
  free-none h e = eqb-true _ 0 (rw (le-ltb s 16 h) at e)

-- ---- values by a table of places

module _ (roles places sample : List ℕ) (t : Tabled places roles) where
  pub value_is : (s first second : ℕ) → s < row_size → first ≡ get_or places (first_octet_of s) 0 → second ≡ get_or places (precision_of s) 0 → first < length roles → value_by sample first second ≡ value_of roles sample s
  value_is s first second h ef es b =
      let f : first ≡ place_of (first_octet_of s) roles = ef ∙ t (first_octet_of s) (omega arith) in
      let p : second ≡ place_of (precision_of s) roles = es ∙ t (precision_of s) (omega arith) in
      rw (← f, ← p, lt-ltb first (length roles) b) refl

  pub value_none : (s : ℕ) → s < row_size → (get_or places (first_octet_of s) 0 < length roles → ⊥) → value_of roles sample s ≡ 0
  value_none s h n =
      let f = t (first_octet_of s) (omega arith) in
      rw (← f, le-ltb (get_or places (first_octet_of s) 0) (length roles) (omega arith)) refl

  -- ---- what is stored of a listed signal

  module _ (waves : List ℕ) (start count : ℕ) (precise : Bool) (x : Signal) (d : Found places (length roles) waves start count precise x) where
    listed : x.slot < row_size → value_in sample x ≡ value_of roles sample x.slot
    listed h = value_is x.slot x.first x.second h d.placed d.refined d.within

    pub coordinate_is : start + count ≤ 5 → signed_in sample x ≡ slot_of roles waves sample x.slot
    coordinate_is l =
        let h : x.slot < 5 = omega (arith, d.high) in
        ap signed (listed (omega arith)) ∙ sym (slot-coordinate roles waves sample x.slot h)

    pub scaled_is : 8 ≤ start → start + count ≤ 16 → scaled_in (colour_scale (hint_in roles sample) * 2) sample x ≡ colour_of roles sample (x.slot - 8)
    unfolding colour_of
    scaled_is l b =
        let e : x.slot - 8 + 8 ≡ x.slot = omega (arith, d.low) in
        rw (listed (omega (arith, d.high)), pow-four (colour_scale (hint_in roles sample)), e) refl

    pub colour_is : 8 ≤ start → start + count ≤ 16 → pos (scaled_in (colour_scale (hint_in roles sample) * 2) sample x) ≡ slot_of roles waves sample x.slot
    colour_is l b =
        ap pos (scaled_is l b) ∙ sym (slot-colour roles waves sample x.slot (omega (arith, d.low)) (omega (arith, d.high)))

    pub wave_is : 16 ≤ start → start + count ≤ row_size → pos (scaled_in 0 sample x) ≡ slot_of roles waves sample x.slot
    wave_is l b =
        let u : 16 ≤ x.slot = omega (arith, d.low) in
        ap pos (div-one _ ∙ listed (omega (arith, d.high))) ∙ sym (slot-free roles waves sample x.slot u (free-none waves x.slot u d.free))

pub colour-zero : (roles sample : List ℕ) (k : ℕ) → value_of roles sample (k + 8) ≡ 0 → colour_of roles sample k ≡ 0
unfolding colour_of
colour-zero roles sample k e = rw e (zero-div _)
