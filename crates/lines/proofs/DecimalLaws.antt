-- Laws of a number as text: the digits that `io` writes are those of the definition, and there are at most twenty.
use Prim.Native.Nat.{ℕ, zero, suc, ◌-◌, ◌/◌, ◌^◌, ◌<◌, ◌≤◌}
use native.Mathlib.Nat.{le_refl, one-le-pow, pow-succ'}
use native.Mathlib.Numerals.{add-one}
use native.Mathlib.Omega.{arith}
use mathlib.Core.Path.{◌≡◌, refl, ap, ◌∙◌}
use mathlib.Core.Bool.{Bool, true, false, cond}
use mathlib.Core.List.{List}
use lib.ListN.{length, length-append}
use lib.Dec.{ltb}
use borrow.Author.Tests.{ltb-true, ltb-false}
use Rattle.io.specs.Digits.{last_digits, IsDigitCount}
use Rattle.lines.specs.Text.{places, decimal}

digits_length : (k n : ℕ) → length (last_digits 10 k n) ≡ k
digits_length zero n = refl
digits_length (suc k) n = rw (length-append, digits_length k (n / 10)) (add-one k)

places-short : (most n : ℕ) → places most n ≤ suc most
unfolding places
places-short zero n = le_refl 1
places-short (suc most) n = short (ltb n 10) (places-short most (n / 10))
  where
    short : (b : Bool) {k : ℕ} → k ≤ suc most → cond b 1 (suc k) ≤ suc (suc most)
    short true h = omega arith
    short false h = omega arith

pub decimal-short : (n : ℕ) → length (decimal n) ≤ 20
unfolding decimal
decimal-short n = rw digits_length (places-short 19 n)

-- ---- the fewest digits that hold n are as many as it has

-- fewer digits do not hold it
all_but_one : (n k : ℕ) → IsDigitCount 10 1 n (suc (suc k)) → 10 ^ suc k ≤ n
all_but_one n k f = let e : suc (suc k) - 1 ≡ suc k = omega arith in rw e at (f.2 (omega arith))

one_place : (n r : ℕ) → n < 10 → IsDigitCount 10 1 n r → r ≡ 1
one_place n zero h f = omega (arith, f.0)
one_place n (suc zero) h f = refl
one_place n (suc (suc k)) h f =
    omega (arith, all_but_one n k f, pow-succ' 10 k, one-le-pow k 10 (omega arith))

-- the digits before the last are those of the tenth part
before_last : (n k : ℕ) → IsDigitCount 10 1 n (suc (suc k)) → IsDigitCount 10 1 (n / 10) (suc k)
before_last n k f =
    let e : suc k - 1 ≡ k = omega arith in (
      omega arith,
      omega (arith, f.1, pow-succ' 10 (suc k)),
      λ _. rw e (omega (arith, all_but_one n k f, pow-succ' 10 k)),
    )

places_is : (most n r : ℕ) → n < 10 ^ suc most → IsDigitCount 10 1 n r → r ≡ places most n
unfolding places
places_is zero n r h f = one_place n r h f
places_is (suc most) n r h f =
    by_test (ltb n 10) refl r f (λ k g. places_is most (n / 10) (suc k) (omega (arith, h, pow-succ' 10 (suc most))) g)
  where
    by_test : (b : Bool) → ltb n 10 ≡ b → (r : ℕ) → IsDigitCount 10 1 n r → ((k : ℕ) → IsDigitCount 10 1 (n / 10) (suc k) → suc k ≡ places most (n / 10)) → r ≡ cond b 1 (suc (places most (n / 10)))
    by_test true e r f more = one_place n r (ltb-true n 10 e) f
    by_test false e zero f more = omega (arith, f.0)
    by_test false e (suc zero) f more = omega (arith, f.1, ltb-false n 10 e)
    by_test false e (suc (suc k)) f more = ap suc (more k (before_last n k f))

-- what `io::decimal` puts at the start of its array is the definition's text
pub decimal_is : {n r : ℕ} {text : List ℕ} → n < 2 ^ 64 → IsDigitCount 10 1 n r → text ≡ last_digits 10 r n → text ≡ decimal n
unfolding decimal
decimal_is {n} {r} h f e = e ∙ ap (λ (k : ℕ). last_digits 10 k n) (places_is 19 n r (omega arith) f)
