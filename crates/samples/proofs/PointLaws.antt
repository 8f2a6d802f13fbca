-- Laws of the points of a chunk, one after the other: where a sample and a row lie, and what one more row makes of the lent rows.
use Prim.Native.Nat.{ℕ, zero, suc, ◌+◌, ◌-◌, ◌*◌, ◌/◌, ◌<◌, ◌≤◌}
use native.Mathlib.Nat.{zero-mul, suc-mul, mul-le-mul_right, le_trans, div-mul-le_self, div-zero, div_self}
use native.Mathlib.Omega.{arith}
use native.Mathlib.Decide.{dec_le}
use native.Mathlib.Numerals.{add-one}
use mathlib.Core.Path.{◌≡◌, refl, sym, ◌∙◌, ap}
use mathlib.Core.Bool.{Bool, true, false, cond, ◌&&◌}
use mathlib.Core.List.{List, ◌++◌, append_assoc}
use lib.ListN.{length, take, drop, length-append}
use lib.Seq.{take_at, drop_at, drop-drop, take_all}
use lib.IntN.{ℤ}
use lib.Dec.{leb}
use mir.Val.{bool_byte}
use borrow.Author.Tests.{le-leb, lt-leb}
use borrow.Rule.Slice.PartMut.{put_mid, mid_len}
use Rattle.samples.specs.declared.plan.Plan.{Plan}
use Rattle.samples.specs.Limits.{row_size}
use Rattle.samples.specs.Row.{row_of, lit_of}
use Rattle.samples.specs.Points.{samples_in, sample_at, rows_of, behind, lit_in, lit_points_in}
use Rattle.samples.specs.PointsLaws.{sample_at-behind, behind-none, lit_in-first}
use Rattle.samples.specs.Plan.{Planned, Ready}
use Rattle.samples.proofs.RowLaws.{slots_of-length}

-- ---- where they lie

times_more : (i w : ℕ) → (i + 1) * w ≡ i * w + w
times_more i w = rw (add-one i) (suc-mul i w)

size_is : (i w : ℕ) → (i + 1) * w - i * w ≡ w
size_is i w = rw (times_more i w) (omega arith)

times_within : (i n w m : ℕ) → i < n → n * w ≤ m → (i + 1) * w ≤ m
times_within i n w m h b =
    let s : i + 1 ≤ n = omega arith in
    le_trans (mul-le-mul_right w s) b

within : (i n w : ℕ) → i < n / w → (i + 1) * w ≤ n
within i n w h = times_within i (n / w) w n h (div-mul-le_self n w)

module _ (roles octets : List ℕ) (i : ℕ) where
  abbrev pub part : List ℕ
  part = take ((i + 1) * length roles - i * length roles) (drop (i * length roles) octets)

  pub sample_is : part ≡ sample_at roles octets i
  sample_is = rw (size_is i (length roles)) refl

  pub sample-length : i < samples_in roles octets → length part ≡ length roles
  sample-length h = mid_len (i * length roles) ((i + 1) * length roles) octets (within i (length octets) (length roles) h) ∙ size_is i (length roles)

  -- the plan of the roles is ready for the sample
  abbrev pub ready : (p : Plan) (waves : List ℕ) → i < samples_in roles octets → Planned p roles waves → Ready p (length part)
  ready p waves h d = record { roles = roles; waves = waves; sized = sym (sample-length h); planned = d }

-- ---- one point more

module _ (roles waves octets : List ℕ) where
  rows_of-length : (n : ℕ) → length (rows_of roles waves octets n) ≡ n * row_size
  unfolding rows_of
  rows_of-length zero = refl
  rows_of-length (suc n) =
      rw (length-append, rows_of-length n, slots_of-length roles waves (sample_at roles octets n) row_size) (sym (suc-mul n row_size))

  rows_of-more : (n : ℕ) → rows_of roles waves octets (n + 1) ≡ rows_of roles waves octets n ++ row_of roles waves (sample_at roles octets n)
  unfolding rows_of
  rows_of-more n = rw (add-one n) refl

  pub rows_more : (i : ℕ) (rows₀ rows row : List ℤ) → row ≡ row_of roles waves (sample_at roles octets i) → rows ≡ rows_of roles waves octets i ++ drop (i * row_size) rows₀ → put_mid (i * row_size) ((i + 1) * row_size - i * row_size) rows row ≡ rows_of roles waves octets (i + 1) ++ drop ((i + 1) * row_size) rows₀
  rows_more i rows₀ rows row er q =
      rw (
        size_is i row_size,
        q,
        times_more i row_size,
        rows_of-more i,
        er,
        take_at (rows_of roles waves octets i) (drop (i * row_size) rows₀) (i * row_size) (rows_of-length i),
        drop_at (rows_of roles waves octets i) (drop (i * row_size) rows₀) (i * row_size) (rows_of-length i),
        drop-drop row_size (i * row_size) rows₀,
      )
      (sym (append_assoc (rows_of roles waves octets i) (row_of roles waves (sample_at roles octets i)) (drop (i * row_size + row_size) rows₀)))

-- one sample more behind the first h, or one of them
pub lit-more : (roles octets : List ℕ) (h i b lit : ℕ) (f : Bool) → f ≡ lit_of roles (sample_at roles octets i) → b ≡ bool_byte (f && leb h i)
    → lit ≡ lit_in roles (behind roles h octets) (i - h) → lit + b ≡ lit_in roles (behind roles h octets) (i + 1 - h)
unfolding lit_in
lit-more roles octets h i b lit f ef eb q = go (dec_le h i)
  where
    both : (g : Bool) → bool_byte (g && true) ≡ cond g 1 0
    both true = refl
    both false = refl

    neither : (g : Bool) → bool_byte (g && false) ≡ 0
    neither true = refl
    neither false = refl

    go : Dec (h ≤ i) → lit + b ≡ lit_in roles (behind roles h octets) (i + 1 - h)
    go (yes le) =
        let next : i + 1 - h ≡ suc (i - h) = omega arith in
        let place : h + (i - h) ≡ i = omega arith in
        let at : sample_at roles (behind roles h octets) (i - h) ≡ sample_at roles octets i = sample_at-behind roles octets h (i - h) ∙ rw place refl in
        rw (eb, le-leb h i le, both f, next, at, ef, q) refl
    go (no lt) =
        let still : i + 1 - h ≡ i - h = omega arith in
        rw (eb, lt-leb h i (omega arith), neither f, still, q) (omega arith)

pub byte-le : (f : Bool) → bool_byte f ≤ 1
byte-le true = omega arith
byte-le false = omega arith

-- one sample by itself, behind the first h
module _ (roles octets : List ℕ) (h i : ℕ) (b : i < samples_in roles octets) where
  -- it is one
  pub one : samples_in roles (part roles octets i) ≡ 1
  one = rw (sample-length roles octets i b) (go (length roles) b)
    where
      go : (w : ℕ) → i < length octets / w → w / w ≡ 1
      go zero z = let none = div-zero (length octets) in absurd (omega arith)
      go (suc w) z = div_self (omega arith)

  pub lit-one : (r lit : ℕ) → h ≤ i → r ≡ lit_points_in roles (behind roles 0 (part roles octets i)) → lit ≡ lit_in roles (behind roles h octets) (i - h)
      → (r ≤ 1) × (lit + r ≡ lit_in roles (behind roles h octets) (i + 1 - h))
  lit-one r lit le er q =
      (rw byte (byte-le lit₁), lit-more roles octets h i r lit lit₁ refl (byte ∙ ap bool_byte (sym (rw (le-leb h i le) (and-true lit₁)))) q)
    where
      lit₁ : Bool
      lit₁ = lit_of roles (sample_at roles octets i)

      and-true : (g : Bool) → (g && true) ≡ g
      and-true true = refl
      and-true false = refl

      byte-cond : (g : Bool) → cond g 1 0 ≡ bool_byte g
      byte-cond true = refl
      byte-cond false = refl

      first : sample_at roles (part roles octets i) 0 ≡ sample_at roles octets i
      first = rw (zero-mul (length roles), take_all (length roles) (part roles octets i) (omega (arith, sample-length roles octets i b))) (sample_is roles octets i)

      byte : r ≡ bool_byte lit₁
      byte = er ∙ rw (behind-none roles (part roles octets i), one, lit_in-first roles (part roles octets i), first) (byte-cond lit₁)
