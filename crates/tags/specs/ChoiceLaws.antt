-- Laws about tests and about checks in a row, for every crate that puts checks in order.
use Rattle.std.specs.Prelude.{◌≡◌, refl, ℕ, zero, suc, ◌<◌, Bool, true, false, cond, not, ◌&&◌, ◌||◌, ◌⊎◌, eqb}
use Rattle.std.proofs.Common.{sym, ◌∙◌, inl, inr, arith, eq-eqb}
use Rattle.std.proofs.lemmas.Bool.{false≢true, not-true}
use Rattle.std.proofs.Math.Dec.{eqb-suc-zero}
use Rattle.tags.specs.Choice.{refuse, first}

-- ---- tests

pub and_left : (a b : Bool) → (a && b) ≡ true → a ≡ true
and_left true b e = refl
and_left false b e = e

pub and_right : (a b : Bool) → (a && b) ≡ true → b ≡ true
and_right true b e = e
and_right false b e = absurd (false≢true e)

pub or_cases : (a b : Bool) → (a || b) ≡ true → (a ≡ true) ⊎ (b ≡ true)
or_cases true b e = inl refl
or_cases false b e = inr e

pub or-false_left : (a b : Bool) → (a || b) ≡ false → a ≡ false
or-false_left true b p = p
or-false_left false b p = refl

pub or-false_right : (a b : Bool) → (a || b) ≡ false → b ≡ false
or-false_right a b p = rw (or-false_left a b p) at p

-- what holds of both arms holds of the choice
pub cond-holds : {A : Type 0} (P : A → Type 0) (b : Bool) {x y : A} → (b ≡ true → P x) → (b ≡ false → P y) → P (cond b x y)
cond-holds P true f g = f refl
cond-holds P false f g = g refl

-- ---- checks in a row

-- what holds of 0 and of a check's number holds of what the check gives, and what holds of two checks' numbers of the first that refuses
pub refuse-holds : (P : ℕ → Type 0) (b : Bool) (n : ℕ) → P 0 → P n → P (refuse b n)
refuse-holds P b n z h = cond-holds P b (λ _. h) (λ _. z)

pub first_holds : (P : ℕ → Type 0) (n m : ℕ) → P n → P m → P (first n m)
first_holds P n m h k = cond-holds P (eqb n 0) (λ _. k) (λ _. h)

-- no refusal: neither the earlier check nor the later one refuses
pub first-zero_left : (n m : ℕ) → first n m ≡ 0 → n ≡ 0
first-zero_left zero m p = refl
first-zero_left (suc n) m p = rw (eqb-suc-zero n) at p

pub first-zero_right : (n m : ℕ) → first n m ≡ 0 → m ≡ 0
first-zero_right n m p = rw (eq-eqb n 0 (first-zero_left n m p)) at p

-- check n that gives 0 did not hold
pub refuse-zero : (b : Bool) (n : ℕ) → 0 < n → refuse b n ≡ 0 → b ≡ false
refuse-zero true n h p = let z : n ≡ 0 = p in absurd (omega arith)
refuse-zero false n h p = refl

-- a number that refuses is not 0
pub not-zero : (k n : ℕ) → 0 < n → k ≡ n → k ≡ 0 → ⊥
not-zero k n h e z = omega arith

pub refused-not-zero : (n : ℕ) → not (eqb n 0) ≡ true → n ≡ 0 → ⊥
refused-not-zero n e z = false≢true (sym (not-true (eqb n 0) e) ∙ eq-eqb n 0 z)
