-- Laws of points: what the octets behind the first samples hold, and how the lit points of the first samples and of those behind them
-- add up.
use Prim.Native.Nat.{ℕ, zero, suc, ◌+◌, ◌-◌, ◌*◌, ◌/◌, ◌<◌, ◌≤◌}
use Rattle.std.proofs.Common.{add-mul, add-zero, add-suc, zero-mul, div-lt_iff_lt-mul, arith, sym, ap, ◌∙◌, length-drop, drop-drop}
use Rattle.std.proofs.Math.Nat.{div-zero, zero-div, add-mul-div_right}
use Rattle.std.proofs.Math.Decide.{dec_le}
use Rattle.std.specs.Prelude.{◌≡◌, refl, cond, List, length}
use Rattle.samples.specs.Row.{lit_of}
use Rattle.samples.specs.Points.{samples_in, sample_at, behind, lit_in, lit_points_in}

-- ---- the samples behind the first h

-- so many fewer
div-behind : (n h w : ℕ) → (n - h * w) / w ≡ n / w - h
div-behind n h zero = rw (div-zero (n - h * zero), div-zero n) (omega arith)
div-behind n h (suc w) = go (dec_le (h * suc w) n)
  where
    go : Dec (h * suc w ≤ n) → (n - h * suc w) / suc w ≡ n / suc w - h
    go (yes le) =
        let whole : n - h * suc w + h * suc w ≡ n = omega arith in
        let more = add-mul-div_right (n - h * suc w) h {z = suc w} (omega arith) in
        let e : n / suc w ≡ (n - h * suc w) / suc w + h = ap (λ (m : ℕ). m / suc w) (sym whole) ∙ more in
        omega arith
    go (no lt) =
        let none : n - h * suc w ≡ 0 = omega arith in
        let few : n / suc w < h = (div-lt_iff_lt-mul {k = suc w} {x = n} {y = h} (omega arith)).1 (omega arith) in
        rw (none, zero-div (suc w)) (omega arith)

module _ (roles octets : List ℕ) (h : ℕ) where
  pub samples_in-behind : samples_in roles (behind roles h octets) ≡ samples_in roles octets - h
  samples_in-behind = rw length-drop (div-behind (length octets) h (length roles))

  pub sample_at-behind : (i : ℕ) → sample_at roles (behind roles h octets) i ≡ sample_at roles octets (h + i)
  sample_at-behind i = rw (drop-drop (i * length roles) (h * length roles) octets, add-mul h i (length roles)) refl

  -- ---- their lit points

  -- the lit points of the first h samples and of those behind them
  pub lit_in-behind : (n : ℕ) → lit_in roles octets (h + n) ≡ lit_in roles octets h + lit_in roles (behind roles h octets) n
  unfolding lit_in
  lit_in-behind zero = rw (add-zero h) (omega arith)
  lit_in-behind (suc n) = rw (add-suc h n, sample_at-behind n) (omega (arith, lit_in-behind n))

pub behind-none : (roles octets : List ℕ) → behind roles 0 octets ≡ octets
behind-none roles octets = rw (zero-mul (length roles)) refl

-- behind the first h lie all lit points less those of the first h
pub lit_points_in-behind : (roles octets : List ℕ) (h : ℕ)
    → lit_points_in roles (behind roles h octets) ≡ lit_points_in roles octets - lit_in roles octets h
unfolding lit_in
lit_points_in-behind roles octets h = rw (samples_in-behind roles octets h) (go (samples_in roles octets))
  where
    go : (n : ℕ) → lit_in roles (behind roles h octets) (n - h) ≡ lit_in roles octets n - lit_in roles octets h
    go n = at (dec_le h n)
      where
        at : Dec (h ≤ n) → lit_in roles (behind roles h octets) (n - h) ≡ lit_in roles octets n - lit_in roles octets h
        at (yes le) =
            let e : h + (n - h) ≡ n = omega arith in
            omega (arith, rw e at (lit_in-behind roles octets h (n - h)))
        at (no lt) =
            let none : n - h ≡ 0 = omega arith in
            let e : n + (h - n) ≡ h = omega arith in
            rw none (omega (arith, rw e at (lit_in-behind roles octets n (h - n))))

-- the first sample by itself
pub lit_in-first : (roles octets : List ℕ) → lit_in roles octets 1 ≡ cond (lit_of roles (sample_at roles octets 0)) 1 0
unfolding lit_in
lit_in-first roles octets = omega arith
