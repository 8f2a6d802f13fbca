-- Laws about what the record holds of a gathered frame, and about what a message does to it.
use mathlib.Core.Path.{◌≡◌, refl, ap, ◌∙◌}
use Prim.Native.Nat.{ℕ, ◌+◌, ◌≤◌}
use mathlib.Core.Bool.{Bool, true, false, false≢true, cond, not, ◌&&◌, ◌||◌}
use mathlib.Core.List.{List, [], ◌∷◌, ◌++◌}
use native.Mathlib.Nat.{add-sub_cancel}
use native.Mathlib.Omega.{arith}
use lib.ListN.{length, get_or, set, take, drop, length-append}
use lib.Seq.{take_at, length-take-le}
use lib.Dec.{ltb, eqb, lit≤}
use borrow.Author.Tests.{ne_eqb, ltb-false}
use Rattle.tags.specs.ChoiceLaws.{or-false_left, or-false_right, refuse-zero}
use Rattle.tags.specs.Kept.{octets_put}
use Rattle.receiver.specs.Message.{channel_of, type_of, is_sequel, is_last, closes, data_of}
use Rattle.receiver.specs.Governing.{Configuration}
use Rattle.receiver.specs.Chunk.{is_fragment}
use Rattle.receiver.specs.Gathering.{Gathering, no_gathering, gathers_on, place_in, end_in, so_far, grown}
use Rattle.receiver.specs.Checks.{most_octets, room_number}
use Rattle.receiver.specs.Effects.{takes, assembly_after, decides, gathering_after}
use Rattle.receiver.specs.Record.{gathered_count, gathering_in}
use Rattle.receiver.specs.Steps.{no_gathered, gathered_after}
use Rattle.receiver.specs.declared.gather.Gathered.{Gathered}

-- ---- four numbers

-- they are known one by one
pub four_gathered : (l : List ℕ) → length l ≡ gathered_count → (get_or l 0 0 ∷ get_or l 1 0 ∷ get_or l 2 0 ∷ get_or l 3 0 ∷ []) ≡ l
four_gathered [] e = absurd (omega (arith, e))
four_gathered (a ∷ []) e = absurd (omega (arith, e))
four_gathered (a ∷ b ∷ []) e = absurd (omega (arith, e))
four_gathered (a ∷ b ∷ c ∷ []) e = absurd (omega (arith, e))
four_gathered (a ∷ b ∷ c ∷ d ∷ []) e = refl
four_gathered (a ∷ b ∷ c ∷ d ∷ f ∷ l) e = absurd (omega (arith, e))

-- and set one by one
pub four_stored : (l : List ℕ) (a b c d : ℕ) → length l ≡ gathered_count → set (set (set (set l 0 a) 1 b) 2 c) 3 d ≡ (a ∷ b ∷ c ∷ d ∷ [])
four_stored [] a b c d e = absurd (omega (arith, e))
four_stored (x ∷ []) a b c d e = absurd (omega (arith, e))
four_stored (x ∷ y ∷ []) a b c d e = absurd (omega (arith, e))
four_stored (x ∷ y ∷ z ∷ []) a b c d e = absurd (omega (arith, e))
four_stored (x ∷ y ∷ z ∷ u ∷ []) a b c d e = refl
four_stored (x ∷ y ∷ z ∷ u ∷ v ∷ l) a b c d e = absurd (omega (arith, e))

-- ---- the room for a fragment

-- check 26 is passed: the octets so far end within the slice, and are not too many
pub room-ends : (m : List ℕ) (v : Configuration) (w : Gathering) (n : ℕ) → room_number m v w n ≡ 0 → is_fragment (type_of m) v ≡ true
    → (end_in m w ≤ n) × (end_in m w ≤ most_octets)
unfolding room_number
room-ends m v w n e f =
    let passed : (ltb n (end_in m w) || ltb most_octets (end_in m w)) ≡ false = go (is_fragment (type_of m) v) f (refuse-zero _ 26 (lit≤ tt) e) in (
      ltb-false n (end_in m w) (or-false_left (ltb n (end_in m w)) (ltb most_octets (end_in m w)) passed),
      ltb-false most_octets (end_in m w) (or-false_right (ltb n (end_in m w)) (ltb most_octets (end_in m w)) passed),
    )
  where
    go : {t : Bool} (b : Bool) → b ≡ true → (b && t) ≡ false → t ≡ false
    go true p q = q
    go false p q = absurd (false≢true p)

-- ---- a fragment put behind those before it

-- the octets so far are the first of the slice
pub so_far-put : (m : List ℕ) (q : Gathered) (a : List ℕ) → end_in m (gathering_in q a) ≤ length a
    → take (end_in m (gathering_in q a)) (octets_put a (place_in m (gathering_in q a)) (data_of m)) ≡ so_far m (gathering_in q a)
so_far-put m q a fits = go (is_sequel m) fits
  where
    go : (b : Bool) → cond b q.count 0 + length (data_of m) ≤ length a
        → take (cond b q.count 0 + length (data_of m)) (octets_put a (cond b q.count 0) (data_of m)) ≡ cond b (take q.count a) [] ++ data_of m
    go true h =
        take_at (take q.count a ++ data_of m) (drop (q.count + length (data_of m)) a) (q.count + length (data_of m))
        (length-append (take q.count a) (data_of m) ∙ ap (λ (n : ℕ). n + length (data_of m)) (length-take-le q.count a (omega arith)))
    go false h = take_at (data_of m) (drop (0 + length (data_of m)) a) (0 + length (data_of m)) (omega arith)

-- ---- what is gathered after a message

-- what the record holds of it, with the slice as it is left, is what the definition says
module _ (m : List ℕ) (n : ℕ) (v : Configuration) (q : Gathered) (a : List ℕ)
    (fits : takes m n v ≡ true → end_in m (gathering_in q a) ≤ length a) where
  -- with one fragment more
  abbrev more : Gathered
  more =
      record {
        state = channel_of m + 1;
        count = end_in m (gathering_in q []);
        timestamp = (grown m (gathering_in q [])).timestamp;
        sequel = (grown m (gathering_in q [])).sequel;
      }

  pub gathering_after_in : gathering_in (gathered_after m n v q) (assembly_after m n v (gathering_in q a) a) ≡ gathering_after m n v (gathering_in q a)
  unfolding gathered_after assembly_after gathering_after
  gathering_after_in =
      by_taken (takes m n v) (is_last m || closes m) (eqb n 25) (eqb n 26) (decides m n && gathers_on (gathering_in q a) (channel_of m)) fits
    where
      -- dropped, or left as it was
      kept : (d : Bool) → gathering_in (cond d no_gathered q) a ≡ cond d no_gathering (gathering_in q a)
      kept true = refl
      kept false = refl

      by_taken : (t l x y z : Bool) → (t ≡ true → end_in m (gathering_in q a) ≤ length a)
          → gathering_in (cond (t && not l) more (cond (t || x || y || z) no_gathered q)) (cond t (octets_put a (place_in m (gathering_in q a)) (data_of m)) a)
          ≡ cond (t && not l) (grown m (gathering_in q a)) (cond (t || x || y || z) no_gathering (gathering_in q a))
      by_taken true false x y z h = λ i.
          record {
            is_on = not (ne_eqb (channel_of m + 1) 0 (λ e. omega (arith, e)) i);
            channel = add-sub_cancel (channel_of m) 1 i;
            count = end_in m (gathering_in q a);
            octets = so_far-put m q a (h refl) i;
            timestamp = (grown m (gathering_in q a)).timestamp;
            sequel = (grown m (gathering_in q a)).sequel;
          }
      by_taken true true x y z h = refl
      by_taken false l x y z h = kept (x || y || z)
