-- Laws of roles: whether an octet has one.
use Rattle.std.specs.Prelude.{ℕ, suc, Bool, true, false, cond, ◌||◌, List, ◌∷◌, ◌≡◌, length, ltb, eqb}
use Rattle.std.proofs.Common.{◌∙◌}
use Rattle.std.proofs.Math.Dec.{leb-zero, leb-suc-suc}
use Rattle.samples.specs.Roles.{place_of, has}

place_test : (b : Bool) (n m : ℕ) → ltb (cond b 0 (suc n)) (suc m) ≡ (b || ltb n m)
place_test true n m = leb-suc-suc 0 m ∙ leb-zero m
place_test false n m = leb-suc-suc (suc n) m

-- the first octet has it, or one after it
pub has-cons : (y : ℕ) (xs : List ℕ) (r : ℕ) → has (y ∷ xs) r ≡ (eqb y r || has xs r)
unfolding place_of
has-cons y xs r = place_test (eqb y r) (place_of r xs) (length xs)
