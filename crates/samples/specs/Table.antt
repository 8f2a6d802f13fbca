-- Tables of what the definitions give beside what a paper says: a row for each of its sentences, and one proof, by computation, for
-- a table. A table that does not agree is refused as a whole: a row is found by cutting the table shorter.
use Rattle.std.specs.Prelude.{◌≡◌, ℕ, zero, suc, Bool, false, cond, not, ◌||◌, List, [], ◌∷◌, ◌++◌, map, eqb}

pub record Row (A : Type 0) : Type 0 where
  pub given : List A
  pub said : List A

abbrev pub row : {A : Type 0} → List A → List A → Row A
row given said = record { given = given; said = said }

-- each row gives what is said
abbrev pub Agrees : {A : Type 0} → List (Row A) → Type 0
Agrees {A} table = map (λ (r : Row A). r.given) table ≡ map (λ (r : Row A). r.said) table

-- n numbers from `start` on
abbrev pub span : ℕ → ℕ → List ℕ
span start zero = []
span start (suc n) = start ∷ span (suc start) n

-- what f gives for each of the numbers, one after the other
abbrev pub each : List ℕ → (ℕ → List ℕ) → List ℕ
each [] f = []
each (x ∷ xs) f = f x ++ each xs f

-- those of the numbers that a test lets pass
abbrev pub passing : (ℕ → Bool) → List ℕ → List ℕ
passing test xs = each xs (λ x. cond (test x) (x ∷ []) [])

abbrev among : List ℕ → ℕ → Bool
among [] n = false
among (k ∷ ks) n = eqb n k || among ks n

-- those of the numbers for which `refusal` is one of these, and those for which it is none of them
abbrev pub refused_by : List ℕ → (ℕ → ℕ) → List ℕ → List ℕ
refused_by numbers refusal = passing (λ x. among numbers (refusal x))

abbrev pub not_refused_by : List ℕ → (ℕ → ℕ) → List ℕ → List ℕ
not_refused_by numbers refusal = passing (λ x. not (among numbers (refusal x)))
