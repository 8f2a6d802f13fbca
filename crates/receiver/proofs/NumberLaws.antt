-- The numbers of refusals: each is above 0, so that the first check that refuses gives the number of checks in a row.
use mathlib.Core.Path.{◌≡◌, sym, ap, ◌∙◌}
use Prim.Native.Nat.{ℕ}
use mathlib.Core.Bool.{false, false≢true}
use native.Mathlib.Omega.{arith}
use lib.Dec.{eqb}
use Rattle.std.specs.Prelude.{Result, Ok, Err, IsErr, IsErrAnd}
use Rattle.tags.specs.Choice.{first}
use Rattle.receiver.specs.Refusal.{refusal_number}
use Rattle.receiver.specs.declared.refusal.Refusal.{Refusal}

pub refusal-some : (r : Refusal) → eqb (refusal_number r) 0 ≡ false
refusal-some r = grind arith

pub first_refused : (r : Refusal) (n m : ℕ) → refusal_number r ≡ n → first n m ≡ refusal_number r
first_refused r n m e = rw (← e, refusal-some r)

-- the same of a number that is the refusal's
pub first-refused : (x : ℕ) (r : Refusal) (n m : ℕ) → x ≡ refusal_number r → refusal_number r ≡ n → x ≡ first n m
first-refused x r n m q p = q ∙ sym (first_refused r n m p)

-- what a `?` hands back is the refusal that it met
pub refused-is : {A : Type 0} (r : Result A Refusal) (x : Refusal) → IsErr r → IsErrAnd r (λ y. y ≡ x) → r ≡ Err x
refused-is (Ok a) x e f = absurd (false≢true e)
refused-is (Err y) x e f = ap Err f
