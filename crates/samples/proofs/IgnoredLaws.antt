-- An ignored octet changes no number of the row (document 01, "4000 NOP (octet ignored)"; document 02, C-16, "its octet is ignored"): the row
-- is that of the other octets by the other roles, whatever the ignored one holds and wherever it stands.
use Prim.Native.Nat.{ℕ, zero, suc, ◌+◌, ◌-◌, ◌<◌}
use Rattle.std.proofs.Common.{arith, sym, ap, ◌∙◌, ne_eqb}
use Rattle.std.specs.Prelude.{Bool, true, false, cond, ◌||◌, List, [], ◌∷◌, ◌++◌, ◌≡◌, length, get_or, eqb}
use Rattle.std.proofs.Math.Path.{refl}
use Rattle.samples.specs.Limits.{colour_limit, row_size}
use Rattle.samples.specs.Roles.{ignored, first_octet_of, precision_of, hint_of, place_of, has}
use Rattle.samples.specs.RolesLaws.{has-cons}
use Rattle.samples.specs.Row.{octet_of, value_of, hint_in, colour_of, intensity_of, wave_of, slot_of, slots_of, row_of, lit_among, lit_of}

-- ---- one role but `ignored`

has-ignored : (ps qs : List ℕ) (r : ℕ) → 0 < r → has (ps ++ (ignored ∷ qs)) r ≡ has (ps ++ qs) r
has-ignored [] qs r h = has-cons ignored qs r ∙ rw (ne_eqb ignored r (λ e. omega arith)) refl
has-ignored (a ∷ ps) qs r h =
    has-cons a (ps ++ (ignored ∷ qs)) r ∙ ap (λ b. eqb a r || b) (has-ignored ps qs r h) ∙ sym (has-cons a (ps ++ qs) r)

octet_of-ignored : (ps xs qs ys : List ℕ) (v r : ℕ) → length ps ≡ length xs → 0 < r
    → octet_of (ps ++ (ignored ∷ qs)) (xs ++ (v ∷ ys)) r ≡ octet_of (ps ++ qs) (xs ++ ys) r
unfolding place_of
octet_of-ignored [] [] qs ys v r l h = rw (ne_eqb ignored r (λ e. omega arith)) refl
octet_of-ignored [] (x ∷ xs) qs ys v r l h = absurd (omega arith)
octet_of-ignored (a ∷ ps) [] qs ys v r l h = absurd (omega arith)
octet_of-ignored (a ∷ ps) (x ∷ xs) qs ys v r l h = go (octet_of-ignored ps xs qs ys v r (omega arith) h) (eqb a r)
  where
    go : octet_of (ps ++ (ignored ∷ qs)) (xs ++ (v ∷ ys)) r ≡ octet_of (ps ++ qs) (xs ++ ys) r
        → (b : Bool)
        → get_or (x ∷ (xs ++ (v ∷ ys))) (cond b 0 (suc (place_of r (ps ++ (ignored ∷ qs))))) 0
        ≡ get_or (x ∷ (xs ++ ys)) (cond b 0 (suc (place_of r (ps ++ qs)))) 0
    go later true = refl
    go later false = later

-- ---- the row

module _ (ps xs qs ys : List ℕ) (v : ℕ) (l : length ps ≡ length xs) where
  -- the roles and the sample with an ignored octet v behind the octets xs, and without it
  abbrev roles : List ℕ
  roles = ps ++ (ignored ∷ qs)

  abbrev sample : List ℕ
  sample = xs ++ (v ∷ ys)

  abbrev others : List ℕ
  others = ps ++ qs

  abbrev rest : List ℕ
  rest = xs ++ ys

  value_of-ignored : (s : ℕ) → value_of roles sample s ≡ value_of others rest s
  value_of-ignored s =
      rw (
        has-ignored ps qs (first_octet_of s) (omega arith),
        octet_of-ignored ps xs qs ys v (first_octet_of s) l (omega arith),
        octet_of-ignored ps xs qs ys v (precision_of s) l (omega arith),
      )

  hinted : has roles (hint_of 1) ≡ has others (hint_of 1)
  hinted = has-ignored ps qs (hint_of 1) (omega arith)

  hint_in-ignored : hint_in roles sample ≡ hint_in others rest
  hint_in-ignored = rw hinted (go (has others (hint_of 1)))
    where
      go : (b : Bool)
          → get_or sample (cond b (place_of (hint_of 1) roles) (place_of (hint_of 0) roles)) 0
          ≡ get_or rest (cond b (place_of (hint_of 1) others) (place_of (hint_of 0) others)) 0
      go true = octet_of-ignored ps xs qs ys v (hint_of 1) l (omega arith)
      go false = octet_of-ignored ps xs qs ys v (hint_of 0) l (omega arith)

  colour_of-ignored : (k : ℕ) → colour_of roles sample k ≡ colour_of others rest k
  unfolding colour_of
  colour_of-ignored k = rw (value_of-ignored (k + 8), hint_in-ignored)

  slot_of-ignored : (waves : List ℕ) (s : ℕ) → slot_of roles waves sample s ≡ slot_of others waves rest s
  unfolding slot_of intensity_of wave_of
  slot_of-ignored waves s =
      rw (
        value_of-ignored s,
        hint_in-ignored,
        hinted,
        value_of-ignored 6,
        value_of-ignored 7,
        colour_of-ignored (s - 8),
        value_of-ignored (s - 16 + 16),
      )

  slots_of-ignored : (waves : List ℕ) (n : ℕ) → slots_of roles waves sample n ≡ slots_of others waves rest n
  unfolding slots_of
  slots_of-ignored waves zero = refl
  slots_of-ignored waves (suc n) = rw (slots_of-ignored waves n, slot_of-ignored waves n)

  -- the law: the row with the octet is the row without it
  pub row_of-ignored : (waves : List ℕ) → row_of roles waves sample ≡ row_of others waves rest
  row_of-ignored waves = slots_of-ignored waves row_size

  lit_among-ignored : (n : ℕ) → lit_among roles sample n ≡ lit_among others rest n
  unfolding lit_among
  lit_among-ignored zero = refl
  lit_among-ignored (suc n) = rw (lit_among-ignored n, colour_of-ignored n)

  -- nor is a point lit by it
  pub lit_of-ignored : lit_of roles sample ≡ lit_of others rest
  lit_of-ignored = lit_among-ignored colour_limit
