-- Laws of the part of a list from a place on.
use Prim.Native.Nat.{ℕ, ◌+◌, ◌<◌, ◌≤◌}
use native.Mathlib.Omega.{arith}
use native.Mathlib.Nat.{zero-add}
use mathlib.Core.List.{List, ◌++◌, append-nil}
use mathlib.Core.Path.{◌≡◌, sym, ◌∙◌}
use lib.ListN.{length, get_or, take, drop, length-drop, drop_of_length-le}
use lib.Seq.{length-take-le, get_or-take, get_or-drop, ext_get_or}

module _ (n x : ℕ) (l : List ℕ) (fits : x + n ≤ length l) where
  pub length_part : length (take n (drop x l)) ≡ n
  length_part = length-take-le n (drop x l) (rw length-drop (omega arith))

  get_d_part : (k : ℕ) → k < n → get_or (take n (drop x l)) k 0 ≡ get_or l (x + k) 0
  get_d_part k h = get_or-take n (drop x l) k 0 h ∙ get_or-drop x l k 0

-- a part is known by its elements
pub part_same : (n x : ℕ) (l m : List ℕ) → x + n ≤ length l → length m ≡ length l
    → ((k : ℕ) → k < n → get_or m (x + k) 0 ≡ get_or l (x + k) 0) → take n (drop x m) ≡ take n (drop x l)
part_same n x l m fits e each =
    let room : x + n ≤ length m = rw e fits in
    ext_get_or 0 (take n (drop x m)) (take n (drop x l)) (length_part n x m room ∙ sym (length_part n x l fits))
    (λ k h.
    let below : k < n = rw (← length_part n x m room) h in
    get_d_part n x m room k below ∙ each k below ∙ sym (get_d_part n x l fits k below))

-- octets copied over others, which are no more, leave none of these
pub copied : (part l : List ℕ) → length l ≤ length part → take 0 l ++ part ++ drop (0 + length part) l ≡ part
copied part l h = rw (zero-add (length part), drop_of_length-le l h) (append-nil part)
