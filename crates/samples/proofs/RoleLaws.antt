-- Laws of `place_of`, and of a table of places that is filled from the last octet to the first.
use Prim.Native.Nat.{ℕ, suc, ◌+◌, ◌<◌, ◌≤◌}
use native.Mathlib.Omega.{arith}
use native.Mathlib.Decide.{ℕ_discrete}
use mathlib.Core.Path.{◌≡◌, refl, sym, ◌∙◌}
use mathlib.Core.Bool.{cond}
use mathlib.Core.List.{List}
use lib.ListN.{length, get_or, drop, set, length-set, drop_of_length-le}
use lib.Seq.{drop-cons, get_or-set_same, get_or-set_other}
use lib.Dec.{eqb}
use borrow.Author.Tests.{eq-eqb, ne_eqb}
use Rattle.samples.specs.Roles.{place_of}
use Rattle.samples.specs.Signals.{table_size}

-- ---- one role

place_of-step : (k : ℕ) (roles : List ℕ) (i : ℕ) → i < length roles → place_of k (drop i roles) ≡ cond (eqb (get_or roles i 0) k) 0 (suc (place_of k (drop (suc i) roles)))
unfolding place_of
place_of-step k roles i h = rw (drop-cons roles i 0 h) refl

place_of-here : (k : ℕ) (roles : List ℕ) (i : ℕ) → i < length roles → get_or roles i 0 ≡ k → i ≡ i + place_of k (drop i roles)
place_of-here k roles i h e =
    let z : place_of k (drop i roles) ≡ 0 = rw (place_of-step k roles i h, eq-eqb _ _ e) refl in
    omega arith

place_of-later : (k : ℕ) (roles : List ℕ) (i : ℕ) → i < length roles → (get_or roles i 0 ≡ k → ⊥) → suc i + place_of k (drop (suc i) roles) ≡ i + place_of k (drop i roles)
place_of-later k roles i h ne =
    let z : place_of k (drop i roles) ≡ suc (place_of k (drop (suc i) roles)) = rw (place_of-step k roles i h, ne_eqb _ _ ne) refl in
    omega arith

-- ---- the table

-- the table has the places in what lies from octet i on
abbrev pub Filled : List ℕ → List ℕ → ℕ → Type 0
Filled places roles i =
    (length places ≡ table_size) × ((k : ℕ) → k < table_size → get_or places k 0 ≡ i + place_of k (drop i roles))

pub filled_none : (places roles : List ℕ) (i : ℕ) → length places ≡ table_size → ((k : ℕ) → k < table_size → get_or places k 0 ≡ i) → length roles ≤ i → Filled places roles i
unfolding place_of
filled_none places roles i l e h =
    (l, (λ k b. e k b ∙ rw (drop_of_length-le roles h) (omega arith)))

module _ (places roles : List ℕ) (i v : ℕ) (f : Filled places roles (suc i)) (h : i < length roles) (e : v ≡ get_or roles i 0) where
  other : (k : ℕ) → k < table_size → (v ≡ k → ⊥) → get_or places k 0 ≡ i + place_of k (drop i roles)
  other k b ne = f.1 k b ∙ place_of-later k roles i h (λ q. ne (e ∙ q))

  -- the octet's role is in the table
  pub filled-set : v < table_size → Filled (set places v i) roles i
  filled-set b = (length-set places v i ∙ f.0, at)
    where
      go : (k : ℕ) → k < table_size → Dec (v ≡ k) → get_or (set places v i) k 0 ≡ i + place_of k (drop i roles)
      go k hk (yes q) =
          rw (← q) (get_or-set_same places v i 0 (rw f.0 b) ∙ place_of-here v roles i h (sym e))
      go k hk (no ne) = get_or-set_other places v k i 0 (λ q. ne (sym q)) ∙ other k hk ne

      at : (k : ℕ) → k < table_size → get_or (set places v i) k 0 ≡ i + place_of k (drop i roles)
      at k hk = go k hk (ℕ_discrete v k)

  -- and where it is no role that the table has
  pub filled-skip : table_size ≤ v → Filled places roles i
  filled-skip b = (f.0, (λ k hk. other k hk (λ q. omega arith)))
