-- A point is lit as its colours say: they are joined bit by bit, and the number is not 0.
use Prim.Native.Nat.{ℕ, zero, suc, ◌+◌, ◌-◌, ◌*◌, ◌/◌, ◌<◌}
use native.Mathlib.Omega.{arith}
use native.Mathlib.Decide.{ℕ_discrete, dec_lt}
use mathlib.Core.Path.{◌≡◌, refl, sym, ◌∙◌, ap}
use mathlib.Core.Bool.{Bool, true, false, not, ◌||◌}
use mathlib.Core.List.{List}
use mathlib.Core.Logic.{inl, inr}
use lib.ListN.{length, get_or}
use lib.Dec.{eqb}
use borrow.Author.Tests.{eqb-true, eqb-false, not-false}
use Rattle.samples.specs.declared.plan.Plan.{Plan}
use Rattle.samples.specs.declared.signals.Signal.{Signal}
use Rattle.samples.specs.Limits.{colour_limit}
use Rattle.samples.specs.Roles.{first_octet_of}
use Rattle.samples.specs.Row.{colour_of, lit_among, lit_of}
use Rattle.samples.specs.Signals.{signal_at, Among, In, Listed, scaled_in, AllDark, NoneLitIn}
use Rattle.samples.specs.Plan.{octet_in, Planned}
use Rattle.samples.proofs.SlotLaws.{free-early, value_none, scaled_is, colour-zero}
use Rattle.samples.proofs.RowLaws.{hint_is}

module _ (roles sample : List ℕ) where
  lit-none : (n : ℕ) → ((k : ℕ) → k < n → colour_of roles sample k ≡ 0) → lit_among roles sample n ≡ false
  unfolding lit_among
  lit-none zero z = refl
  lit-none (suc n) z = rw (lit-none n (λ k h. z k (omega arith)), z n (omega arith)) refl

  lit-all : (n : ℕ) → lit_among roles sample n ≡ false → (k : ℕ) → k < n → colour_of roles sample k ≡ 0
  unfolding lit_among
  lit-all zero e k h = absurd (omega arith)
  lit-all (suc n) e k h = go (lit_among roles sample n) e (λ q. lit-all n q k) refl (ℕ_discrete k n)
    where
      go : (b : Bool) → (b || not (eqb (colour_of roles sample n) 0)) ≡ false → (lit_among roles sample n ≡ false → k < n → colour_of roles sample k ≡ 0) → lit_among roles sample n ≡ b → Dec (k ≡ n) → colour_of roles sample k ≡ 0
      go true x ih q y = let z : ◌≡◌ {A = ℕ} 0 1 = cc in absurd (omega arith)
      go false x ih q (yes i) = rw i (eqb-true _ 0 (not-false _ x))
      go false x ih q (no ne) = ih q (omega arith)

  -- a number that is 0 just where all colours are
  lit_by : (r : ℕ) → (r ≡ 0 → (k : ℕ) → k < colour_limit → colour_of roles sample k ≡ 0) → (((k : ℕ) → k < colour_limit → colour_of roles sample k ≡ 0) → r ≡ 0) → not (eqb r 0) ≡ lit_of roles sample
  lit_by r f g = go (eqb r 0) refl (lit_of roles sample) refl
    where
      go : (b : Bool) → eqb r 0 ≡ b → (c : Bool) → lit_of roles sample ≡ c → not b ≡ c
      go true e c q = sym (lit-none colour_limit (f (eqb-true r 0 e))) ∙ q
      go false e true q = refl
      go false e false q = absurd (eqb-false r 0 e (g (lit-all colour_limit q)))

-- ---- by the two lists of colours

module _ (p : Plan) (roles waves sample : List ℕ) (d : Planned p roles waves) (l : length sample ≡ length roles) (hint : ℕ) (e : hint ≡ octet_in p.hint sample) (r : ℕ)
    (z : NoneLitIn r (scaled_in (hint / 64 * 2) sample) p.colours) where
  -- a list of colours
  module _ (precise : Bool) (list : List Signal) (g : Listed d.places (length roles) waves 8 colour_limit precise colour_limit list) where
    scaled_at : (j : ℕ) → j < length list → scaled_in (hint / 64 * 2) sample (signal_at list j) ≡ colour_of roles sample ((signal_at list j).slot - 8)
    scaled_at j c = rw (e ∙ hint_is p roles waves sample d l) (scaled_is roles d.places sample d.table waves 8 colour_limit precise _ (g.each j c) (omega arith) (omega arith))

    dark_at : (k : ℕ) → AllDark (scaled_in (hint / 64 * 2) sample) list (length list) → Among list (length list) (k + 8) → colour_of roles sample k ≡ 0
    dark_at k n x =
        let q : (signal_at list x.index).slot - 8 ≡ k = omega (arith, x.slot) in
        ap (colour_of roles sample) (sym q) ∙ sym (scaled_at x.index x.below) ∙ n x.index x.below

    dark : ((k : ℕ) → k < colour_limit → colour_of roles sample k ≡ 0) → AllDark (scaled_in (hint / 64 * 2) sample) list (length list)
    dark n j c = let s = g.each j c in scaled_at j c ∙ n ((signal_at list j).slot - 8) (omega (arith, s.low, s.high))

  colours-dark : r ≡ 0 → (k : ℕ) → k < colour_limit → colour_of roles sample k ≡ 0
  colours-dark q k c = go (dec_lt (get_or d.places (first_octet_of (k + 8)) 0) (length roles))
    where
      at : In p.colours (k + 8) → colour_of roles sample k ≡ 0
      at (inl x) = dark_at true p.colours.fine d.colours.precise k (z.0 q).0 x
      at (inr x) = dark_at false p.colours.coarse d.colours.plain k (z.0 q).1 x

      go : Dec (get_or d.places (first_octet_of (k + 8)) 0 < length roles) → colour_of roles sample k ≡ 0
      go (yes w) = at (d.colours.all (k + 8) (omega arith) (omega arith) (free-early waves (k + 8) (omega arith)) w)
      go (no w) = colour-zero roles sample k (value_none roles d.places sample d.table (k + 8) (omega arith) w)

  pub lit-drawn : not (eqb r 0) ≡ lit_of roles sample
  lit-drawn =
      lit_by roles sample r colours-dark
      (λ n. z.1 (dark true p.colours.fine d.colours.precise n, dark false p.colours.coarse d.colours.plain n))
