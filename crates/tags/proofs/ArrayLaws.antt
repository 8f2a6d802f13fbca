-- A law of an array of which the first k elements are in use, with 0 in those after (specs/Layout.antt's `padded`): with one more in use.
use Prim.Native.Nat.{ℕ, suc, ◌-◌, ◌<◌}
use mathlib.Core.List.{List, [], ◌∷◌, ◌++◌}
use mathlib.Core.Path.{◌≡◌}
use native.Mathlib.Omega.{arith}
use lib.ListN.{length, set, replicate, length-append}
use lib.Seq.{append_snoc, set_at}
use Rattle.tags.specs.Layout.{padded}

pub set-padded : (n k : ℕ) (l : List ℕ) (x : ℕ) → length l ≡ k → k < n → set (padded n l) k x ≡ padded n (l ++ (x ∷ []))
unfolding padded
set-padded n k l x e h =
    let rest : n - length l ≡ suc (n - suc k) = omega arith in
    let less : n - length (l ++ (x ∷ [])) ≡ n - suc k = omega (arith, length-append l (x ∷ [])) in
    rw (rest, less, append_snoc l x (replicate (n - suc k) 0)) (set_at l 0 (replicate (n - suc k) 0) x k e)
