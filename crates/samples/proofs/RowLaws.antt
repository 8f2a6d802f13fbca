-- The row that is drawn by a plan is the row of the sample.
use Prim.Native.Nat.{ℕ, zero, suc, ◌+◌, ◌-◌, ◌*◌, ◌/◌, ◌%◌, ◌<◌, ◌≤◌}
use native.Mathlib.Nat.{zero-div, div-one}
use native.Mathlib.Omega.{arith}
use native.Mathlib.Decide.{ℕ_discrete, dec_lt}
use mathlib.Core.Path.{◌≡◌, refl, sym, ◌∙◌, ap}
use mathlib.Core.Bool.{Bool, true, false, cond}
use mathlib.Core.List.{List, [], ◌∷◌, ◌++◌}
use mathlib.Core.Logic.{◌⊎◌, inl, inr}
use lib.ListN.{length, get_or, set, length-set, length-append, get_or-append, get_or-eq_default}
use lib.Seq.{get_or-set_same, get_or-set_other, get_or_at, ext_get_or}
use lib.IntN.{ℤ, pos}
use lib.Dec.{ltb}
use borrow.Author.Tests.{ltb-true, ltb-false}
use Rattle.std.specs.Prelude.{Option, Some, None}
use Rattle.std.specs.Option.{option_or}
use Rattle.samples.specs.declared.plan.Plan.{Plan}
use Rattle.samples.specs.declared.signals.Signal.{Signal}
use Rattle.samples.specs.declared.signals.Kind.{Kind}
use Rattle.samples.specs.Limits.{colour_limit, row_size}
use Rattle.samples.specs.Roles.{first_octet_of, hint_of, place_of, has}
use Rattle.samples.specs.Row.{value_of, signed, hint_in, intensity_scale, intensity_of, slot_of, slots_of, row_of}
use Rattle.samples.specs.Signals.{signal_of, In, Gathered, is_free, signed_in, scaled_in, BothStored}
use Rattle.samples.specs.Plan.{rest_of, alone_in, octet_in, single_over, singles_over, Planned}
use Rattle.samples.proofs.SlotLaws.{pow-four, by_slot, slot-coordinate, slot-colour, slot-free, slot-fixed, rest-early, rest-late, free-early, free-late, value_is, value_none, coordinate_is, colour_is, wave_is, colour-zero}

-- ---- one number more

-- one of the slots that stand alone is right after its number was stored, and so is each that was right before
module _ (f : ℕ → ℤ) (slot : ℕ) (v : ℤ) (row : List ℤ) (h : slot < length row) (e : v ≡ f slot) where
  set_right : (s : ℕ) → (get_or row s (pos 0) ≡ f s) ⊎ (s ≡ slot) → get_or (set row slot v) s (pos 0) ≡ f s
  set_right s x = go (ℕ_discrete s slot) x
    where
      go : Dec (s ≡ slot) → (get_or row s (pos 0) ≡ f s) ⊎ (s ≡ slot) → get_or (set row slot v) s (pos 0) ≡ f s
      go (yes q) x = rw q (get_or-set_same row slot v (pos 0) h ∙ e)
      go (no ne) (inl r) = get_or-set_other row slot s v (pos 0) ne ∙ r
      go (no ne) (inr x) = absurd (ne x)

on : {A B C : Type 0} → (A → B) → A ⊎ C → B ⊎ C
on g (inl a) = inl (g a)
on g (inr c) = inr c

-- ---- the slots of a row

pub slots_of-length : (roles waves sample : List ℕ) (n : ℕ) → length (slots_of roles waves sample n) ≡ n
unfolding slots_of
slots_of-length roles waves sample zero = refl
slots_of-length roles waves sample (suc n) =
    let e = slots_of-length roles waves sample n in
    rw length-append (omega arith)

slots_of_at : (roles waves sample : List ℕ) (n k : ℕ) → k < n → get_or (slots_of roles waves sample n) k (pos 0) ≡ slot_of roles waves sample k
unfolding slots_of
slots_of_at roles waves sample zero k h = absurd (omega arith)
slots_of_at roles waves sample (suc n) k h = go (ℕ_discrete k n) (λ q. slots_of_at roles waves sample n k q)
  where
    l : length (slots_of roles waves sample n) ≡ n
    l = slots_of-length roles waves sample n

    go : Dec (k ≡ n) → (k < n → get_or (slots_of roles waves sample n) k (pos 0) ≡ slot_of roles waves sample k) → get_or (slots_of roles waves sample n ++ (slot_of roles waves sample n ∷ [])) k (pos 0) ≡ slot_of roles waves sample k
    go (yes e) ih = rw e (get_or_at (slots_of roles waves sample n) (slot_of roles waves sample n) [] (pos 0) n l)
    go (no ne) ih =
        get_or-append (slots_of roles waves sample n) (slot_of roles waves sample n ∷ []) (pos 0) k (omega (arith, l)) ∙ ih (omega arith)

-- ---- the hint's octet

hint_by : (a b w : ℕ) (sample : List ℕ) → length sample ≡ w
    → octet_in (option_or (cond (ltb a w) (Some a) None) (cond (ltb b w) (Some b) None)) sample ≡ get_or sample (cond (ltb a w) a b) 0
unfolding octet_in
hint_by a b w sample l = go (ltb a w) (ltb b w) refl
  where
    go : (t u : Bool) → ltb b w ≡ u → octet_in (option_or (cond t (Some a) None) (cond u (Some b) None)) sample ≡ get_or sample (cond t a b) 0
    go true u e = refl
    go false true e = refl
    go false false e = let past = ltb-false b w e in sym (get_or-eq_default sample 0 (omega arith))

-- ---- a signal that stands alone

single_over-length : (o : Option Signal) (shift : ℕ) (sample : List ℕ) (row : List ℤ) → length (single_over o shift sample row) ≡ length row
unfolding single_over
single_over-length None shift sample row = refl
single_over-length (Some x) shift sample row = length-set row x.slot _

-- ---- the row

module _ (p : Plan) (roles waves sample : List ℕ) (d : Planned p roles waves) (l : length sample ≡ length roles) where
  abbrev f : ℕ → ℤ
  f = slot_of roles waves sample

  abbrev Right : List ℤ → ℕ → Type 0
  Right row s = get_or row s (pos 0) ≡ f s

  -- slot s has a first octet
  abbrev Here : ℕ → Type 0
  Here s = get_or d.places (first_octet_of s) 0 < length roles

  rest : (s : ℕ) → s < row_size → rest_of p.shutter waves s ≡ f s → Right p.template s
  rest s h e = d.rests s h ∙ e

  -- a slot is right in the template, or it is listed
  source : (start count : ℕ) (kind : Kind) → Gathered d.places (length roles) waves start count count kind → (s : ℕ) → start ≤ s → s < start + count → s < row_size → is_free waves s ≡ true → (value_of roles sample s ≡ 0 → Right p.template s) → Right p.template s ⊎ In kind s
  source start count kind g s a b h e z = go (dec_lt (get_or d.places (first_octet_of s) 0) (length roles))
    where
      go : Dec (Here s) → Right p.template s ⊎ In kind s
      go (yes c) = inr (g.all s a b e c)
      go (no c) = inl (z (value_none roles d.places sample d.table s h c))

  coordinate-source : (s : ℕ) → s < 5 → Right p.template s ⊎ In p.coordinates s
  coordinate-source s h =
      source 0 5 p.coordinates d.coordinates s (omega arith) (omega arith) (omega arith) (free-early waves s (omega arith))
      (λ z. rest s (omega arith) (rest-early _ waves s (λ q. omega arith) (omega arith) ∙ sym (slot-coordinate roles waves sample s h ∙ ap signed z)))

  colour-source : (s : ℕ) → 8 ≤ s → s < 16 → Right p.template s ⊎ In p.colours s
  colour-source s u h =
      source 8 colour_limit p.colours d.colours s u (omega arith) (omega arith) (free-early waves s h)
      (λ z.
      let e : s - 8 + 8 ≡ s = omega arith in
      rest s (omega arith) (rest-early _ waves s (λ q. omega arith) h ∙ sym (slot-colour roles waves sample s u h ∙ ap pos (colour-zero roles sample (s - 8) (rw e z)))))

  wave-source : (s : ℕ) → 16 ≤ s → s < row_size → Right p.template s ⊎ In p.waves s
  wave-source s u h = go (ℕ_discrete (get_or waves (s - 16) 0) 0)
    where
      go : Dec (get_or waves (s - 16) 0 ≡ 0) → Right p.template s ⊎ In p.waves s
      go (no ne) = inl (rest s h (rest-late _ waves s u ∙ sym (slot-fixed roles waves sample s u ne)))
      go (yes e) =
          source 16 colour_limit p.waves d.wavelengths s u h h (free-late waves s u e)
          (λ z. rest s h (rest-late _ waves s u ∙ rw e (sym (slot-free roles waves sample s u e ∙ ap pos z))))

  -- ---- the slots that stand alone

  pub hint_is : octet_in p.hint sample ≡ hint_in roles sample
  hint_is = rw (d.hint, d.table (hint_of 1) (omega arith), d.table (hint_of 0) (omega arith)) (hint_by (place_of (hint_of 1) roles) (place_of (hint_of 0) roles) (length roles) sample l)

  abbrev shift : ℕ
  shift = intensity_scale (hint_in roles sample) * 2

  shutter_is : p.shutter ≡ has roles (hint_of 1)
  shutter_is = d.shutter ∙ rw (d.table (hint_of 1) (omega arith)) refl

  right₅ : p.shutter ≡ true → pos (hint_in roles sample % 2) ≡ f 5
  unfolding slot_of
  right₅ e = rw (sym shutter_is ∙ e) refl

  right₆ : Here 6 → pos (scaled_in shift sample (signal_of d.places 6)) ≡ f 6
  unfolding slot_of intensity_of
  right₆ h = rw (value_is roles d.places sample d.table 6 _ _ (omega arith) refl refl h, pow-four (intensity_scale (hint_in roles sample))) refl

  right₇ : Here 7 → pos (scaled_in 0 sample (signal_of d.places 7)) ≡ f 7
  unfolding slot_of
  right₇ h = ap pos (div-one _ ∙ value_is roles d.places sample d.table 7 _ _ (omega arith) refl refl h)

  rest₅ : p.shutter ≡ false → Right p.template 5
  unfolding rest_of slot_of
  rest₅ e = rest 5 (omega arith) (rw (e, sym shutter_is ∙ e) refl)

  rest₆ : (Here 6 → ⊥) → Right p.template 6
  unfolding slot_of intensity_of
  rest₆ n =
      rest 6 (omega arith) (rest-early _ waves 6 (λ q. omega arith) (omega arith) ∙ ap pos (sym (rw (value_none roles d.places sample d.table 6 (omega arith) n) (zero-div _))))

  rest₇ : (Here 7 → ⊥) → Right p.template 7
  unfolding slot_of
  rest₇ n = rest 7 (omega arith) (rest-early _ waves 7 (λ q. omega arith) (omega arith) ∙ ap pos (sym (value_none roles d.places sample d.table 7 (omega arith) n)))

  single_right : (o : Option Signal) (slot k : ℕ) (row : List ℤ) → o ≡ alone_in d.places (length roles) slot → slot < length row → (Here slot → pos (scaled_in k sample (signal_of d.places slot)) ≡ f slot)
      → (s : ℕ) → Right row s ⊎ ((s ≡ slot) × Here slot) → Right (single_over o k sample row) s
  unfolding single_over
  single_right o slot k row q h e s x = rw q (go (ltb (get_or d.places (first_octet_of slot) 0) (length roles)) refl x)
    where
      go : (t : Bool) → ltb (get_or d.places (first_octet_of slot) 0) (length roles) ≡ t → Right row s ⊎ ((s ≡ slot) × Here slot)
          → Right (single_over (cond t (Some (signal_of d.places slot)) None) k sample row) s
      go true t (inl r) = set_right f slot _ row h (e (ltb-true _ _ t)) s (inl r)
      go true t (inr y) = set_right f slot _ row h (e (ltb-true _ _ t)) s (inr y.0)
      go false t (inl r) = r
      go false t (inr y) = let past = ltb-false _ _ t in absurd (omega (arith, y.1))

  shutter_right : (row : List ℤ) → length row ≡ row_size → (s : ℕ) → Right row s ⊎ ((s ≡ 5) × (p.shutter ≡ true)) → Right (cond p.shutter (set row 5 (pos (hint_in roles sample % 2))) row) s
  shutter_right row h s = go p.shutter refl
    where
      go : (t : Bool) → p.shutter ≡ t → Right row s ⊎ ((s ≡ 5) × (p.shutter ≡ true)) → Right (cond t (set row 5 (pos (hint_in roles sample % 2))) row) s
      go true t (inl r) = set_right f 5 _ row (omega arith) (right₅ t) s (inl r)
      go true t (inr y) = set_right f 5 _ row (omega arith) (right₅ t) s (inr y.0)
      go false t (inl r) = r
      go false t (inr y) = let z : ◌≡◌ {A = Bool} true false = sym y.1 ∙ t in (cc)

  shuttered-length : (t : Bool) (v : ℤ) (row : List ℤ) → length (cond t (set row 5 v) row) ≡ length row
  shuttered-length true v row = length-set row 5 v
  shuttered-length false v row = refl

  abbrev Alone : ℕ → Type 0
  Alone s = ((s ≡ 5) × (p.shutter ≡ true)) ⊎ (((s ≡ 6) × Here 6) ⊎ ((s ≡ 7) × Here 7))

  singles_right : (row : List ℤ) → length row ≡ row_size → (s : ℕ) → Right row s ⊎ Alone s → Right (singles_over p (hint_in roles sample) sample row) s
  unfolding singles_over
  singles_right row h s = go
    where
      row₁ : List ℤ
      row₁ = cond p.shutter (set row 5 (pos (hint_in roles sample % 2))) row

      row₂ : List ℤ
      row₂ = single_over p.intensity shift sample row₁

      after₅ : Right row s ⊎ ((s ≡ 5) × (p.shutter ≡ true)) → Right row₁ s
      after₅ = shutter_right row h s

      after₆ : Right row₁ s ⊎ ((s ≡ 6) × Here 6) → Right row₂ s
      after₆ = single_right p.intensity 6 shift row₁ d.intensity (simp shuttered-length (omega arith)) right₆ s

      after₇ : Right row₂ s ⊎ ((s ≡ 7) × Here 7) → Right (single_over p.brush 0 sample row₂) s
      after₇ = single_right p.brush 7 0 row₂ d.brush (simp (single_over-length, shuttered-length) (omega arith)) right₇ s

      go : Right row s ⊎ Alone s → Right (single_over p.brush 0 sample row₂) s
      go (inl r) = after₇ (inl (after₆ (inl (after₅ (inl r)))))
      go (inr (inl a)) = after₇ (inl (after₆ (inl (after₅ (inr a)))))
      go (inr (inr (inl a))) = after₇ (inl (after₆ (inr a)))
      go (inr (inr (inr a))) = after₇ (inr a)

  -- ---- the rows after each step

  module _ (hint : ℕ) (e : hint ≡ octet_in p.hint sample) (row₀ row₁ row₂ row₃ : List ℤ)
      (s₀ : BothStored (λ x. pos (scaled_in (hint / 64 * 2) sample x)) p.colours p.template row₀)
      (l₀ : length row₀ ≡ row_size)
      (e₁ : row₁ ≡ singles_over p hint sample row₀)
      (s₂ : BothStored (signed_in sample) p.coordinates row₁ row₂)
      (s₃ : BothStored (λ x. pos (scaled_in 0 sample x)) p.waves row₂ row₃) where
    step₀ : (s : ℕ) → s < row_size → Right p.template s ⊎ In p.colours s → Right row₀ s
    step₀ =
        s₀ f
        (λ j c. rw (e ∙ hint_is) (colour_is roles d.places sample d.table waves 8 colour_limit true _ (d.colours.precise.each j c) (omega arith) (omega arith)))
        (λ j c. rw (e ∙ hint_is) (colour_is roles d.places sample d.table waves 8 colour_limit false _ (d.colours.plain.each j c) (omega arith) (omega arith)))

    step₁ : (s : ℕ) → Right row₀ s ⊎ Alone s → Right row₁ s
    step₁ s x = rw (e₁, e ∙ hint_is) (singles_right row₀ l₀ s x)

    step₂ : (s : ℕ) → s < row_size → Right row₁ s ⊎ In p.coordinates s → Right row₂ s
    step₂ =
        s₂ f
        (λ j c. coordinate_is roles d.places sample d.table waves 0 5 true _ (d.coordinates.precise.each j c) (omega arith))
        (λ j c. coordinate_is roles d.places sample d.table waves 0 5 false _ (d.coordinates.plain.each j c) (omega arith))

    step₃ : (s : ℕ) → s < row_size → Right row₂ s ⊎ In p.waves s → Right row₃ s
    step₃ =
        s₃ f
        (λ j c. wave_is roles d.places sample d.table waves 16 colour_limit true _ (d.wavelengths.precise.each j c) (omega arith) (omega arith))
        (λ j c. wave_is roles d.places sample d.table waves 16 colour_limit false _ (d.wavelengths.plain.each j c) (omega arith) (omega arith))

    then₂ : (s : ℕ) → s < row_size → Right p.template s ⊎ Alone s → Right row₂ s
    then₂ s b x = step₂ s b (inl (step₁ s (on (λ r. step₀ s b (inl r)) x)))

    alone : (s : ℕ) → s < row_size → Right p.template s ⊎ Alone s → Right row₃ s
    alone s b x = step₃ s b (inl (then₂ s b x))

    shutter : (t : Bool) → p.shutter ≡ t → Right p.template 5 ⊎ Alone 5
    shutter true t = inr (inl (refl, t))
    shutter false t = inl (rest₅ t)

    intensity : Dec (Here 6) → Right p.template 6 ⊎ Alone 6
    intensity (yes h) = inr (inr (inl (refl, h)))
    intensity (no n) = inl (rest₆ n)

    brush : Dec (Here 7) → Right p.template 7 ⊎ Alone 7
    brush (yes h) = inr (inr (inr (refl, h)))
    brush (no n) = inl (rest₇ n)

    all_right : (s : ℕ) → s < row_size → Right row₃ s
    all_right =
        by_slot (Right row₃)
        (λ s b. let c : s < row_size = omega arith in step₃ s c (inl (step₂ s c (on (λ r. step₁ s (inl (step₀ s c (inl r)))) (coordinate-source s b)))))
        (alone 5 (omega arith) (shutter p.shutter refl))
        (alone 6 (omega arith) (intensity (dec_lt _ _)))
        (alone 7 (omega arith) (brush (dec_lt _ _)))
        (λ s u b. let c : s < row_size = omega arith in step₃ s c (inl (step₂ s c (inl (step₁ s (inl (step₀ s c (colour-source s u b))))))))
        (λ s u b. step₃ s b (on (λ r. then₂ s b (inl r)) (wave-source s u b)))

    pub drawn : length row₃ ≡ row_size → row₃ ≡ row_of roles waves sample
    drawn h =
        ext_get_or (pos 0) row₃ (row_of roles waves sample) (h ∙ sym (slots_of-length roles waves sample row_size))
        (λ s b. let c : s < row_size = omega arith in all_right s c ∙ sym (slots_of_at roles waves sample row_size s c))
