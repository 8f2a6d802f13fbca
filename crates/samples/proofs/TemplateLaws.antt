-- Laws of the template row, which is filled in three steps: zeros, the shutter, and the wavelengths from the front.
use Prim.Native.Nat.{ℕ, ◌+◌, ◌-◌, ◌*◌, ◌<◌, ◌≤◌}
use native.Mathlib.Omega.{arith}
use native.Mathlib.Decide.{ℕ_discrete, dec_lt}
use mathlib.Core.Path.{◌≡◌, refl, sym, ◌∙◌}
use mathlib.Core.Bool.{Bool, cond}
use mathlib.Core.List.{List}
use lib.ListN.{length, get_or, set, replicate, get_or-replicate, length-replicate, length-set}
use lib.Seq.{get_or-set_same, get_or-set_other}
use lib.IntN.{ℤ, pos}
use lib.Dec.{ltb, eqb}
use borrow.Author.Tests.{lt-ltb, le-ltb, ne_eqb}
use Rattle.samples.specs.Limits.{colour_limit, row_size}
use Rattle.samples.specs.Plan.{rest_of}

-- the slots below 16 + k are as they are to be, and the others are 0
abbrev pub Waved : Bool → List ℕ → List ℤ → ℕ → Type 0
Waved shutter waves row k =
    (length row ≡ row_size)
    × ((s : ℕ) → s < row_size → get_or row s (pos 0) ≡ cond (ltb s (16 + k)) (rest_of shutter waves s) (pos 0))

module _ (shutter : Bool) (waves : List ℕ) where
  -- the shutter's slot, and zeros
  early : (s : ℕ) (v : ℤ) → v ≡ cond (eqb s 5) (pos (cond shutter 0 1)) (pos 0) → Dec (s < 16) → v ≡ cond (ltb s (16 + 0)) (rest_of shutter waves s) (pos 0)
  unfolding rest_of
  early s v e (yes h) = rw (lt-ltb s 16 h) e
  early s v e (no h) = let b : 16 ≤ s = omega arith in rw (le-ltb s 16 b) (e ∙ rw (ne_eqb s 5 (λ q. omega arith)) refl)

  waved_none : (row : List ℤ) → length row ≡ row_size → ((s : ℕ) → s < row_size → get_or row s (pos 0) ≡ cond (eqb s 5) (pos (cond shutter 0 1)) (pos 0)) → Waved shutter waves row 0
  waved_none row l e = (l, (λ s h. early s _ (e s h) (dec_lt s 16)))

  rest-wave : (k : ℕ) → rest_of shutter waves (16 + k) ≡ pos (get_or waves k 0 * 64)
  unfolding rest_of
  rest-wave k =
      let q : 16 + k - 16 ≡ k = omega arith in
      rw (ne_eqb (16 + k) 5 (λ q. omega arith), le-ltb (16 + k) 16 (omega arith), q) refl

  pub waved_more : (row : List ℤ) (k : ℕ) (v : ℤ) → k < colour_limit → v ≡ pos (get_or waves k 0 * 64) → Waved shutter waves row k → Waved shutter waves (set row (16 + k) v) (k + 1)
  waved_more row k v h e f = (length-set row (16 + k) v ∙ f.0, at)
    where
      go : (s : ℕ) → s < row_size → Dec (s ≡ 16 + k) → Dec (s < 16 + k) → get_or (set row (16 + k) v) s (pos 0) ≡ cond (ltb s (16 + (k + 1))) (rest_of shutter waves s) (pos 0)
      go s hs (yes q) d =
          rw (q, lt-ltb (16 + k) (16 + (k + 1)) (omega arith), rest-wave k)
          (get_or-set_same row (16 + k) v (pos 0) (omega (arith, f.0)) ∙ e)
      go s hs (no ne) (yes d) =
          get_or-set_other row (16 + k) s v (pos 0) ne ∙ f.1 s hs ∙ rw (lt-ltb s (16 + k) d, lt-ltb s (16 + (k + 1)) (omega arith)) refl
      go s hs (no ne) (no d) =
          get_or-set_other row (16 + k) s v (pos 0) ne
          ∙ f.1 s hs
          ∙ rw (le-ltb s (16 + k) (omega arith), le-ltb s (16 + (k + 1)) (omega arith)) refl

      at : (s : ℕ) → s < row_size → get_or (set row (16 + k) v) s (pos 0) ≡ cond (ltb s (16 + (k + 1))) (rest_of shutter waves s) (pos 0)
      at s hs = go s hs (ℕ_discrete s (16 + k)) (dec_lt s (16 + k))

  -- the wavelengths that are left are none
  pub waved_all : (row : List ℤ) (k : ℕ) → ((j : ℕ) → k ≤ j → j < colour_limit → get_or waves j 0 ≡ 0) → Waved shutter waves row k → (s : ℕ) → s < row_size → get_or row s (pos 0) ≡ rest_of shutter waves s
  waved_all row k z f s hs = f.1 s hs ∙ go (dec_lt s (16 + k))
    where
      go : Dec (s < 16 + k) → cond (ltb s (16 + k)) (rest_of shutter waves s) (pos 0) ≡ rest_of shutter waves s
      go (yes h) = rw (lt-ltb s (16 + k) h) refl
      go (no h) =
          let e : 16 + (s - 16) ≡ s = omega arith in
          let r = rest-wave (s - 16) in
          rw (le-ltb s (16 + k) (omega arith)) (sym ((rw e at r) ∙ rw (z (s - 16) (omega arith) (omega arith)) refl))

-- ---- the row to start from

abbrev pub zeros : List ℤ
zeros = replicate row_size (pos 0)

pub waved_first : (shutter : Bool) (waves : List ℕ) (v : ℤ) → v ≡ pos (cond shutter 0 1) → Waved shutter waves (set zeros 5 v) 0
waved_first shutter waves v e =
    waved_none shutter waves (set zeros 5 v) (length-set zeros 5 v ∙ length-replicate row_size (pos 0)) (λ s h. go s h (ℕ_discrete s 5))
  where
    go : (s : ℕ) → s < row_size → Dec (s ≡ 5) → get_or (set zeros 5 v) s (pos 0) ≡ cond (eqb s 5) (pos (cond shutter 0 1)) (pos 0)
    go s h (yes q) = rw q e
    go s h (no ne) = get_or-set_other zeros 5 s v (pos 0) ne ∙ get_or-replicate row_size s (pos 0) (pos 0) h ∙ rw (ne_eqb s 5 ne) refl
