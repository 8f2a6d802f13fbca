-- Laws of octets that lie in a buffer while more are read behind them.
use Prim.Native.Nat.{ℕ, ◌-◌, ◌<◌, ◌≤◌}
use native.Mathlib.Nat.{sub-zero}
use native.Mathlib.Omega.{arith}
use mathlib.Core.Path.{◌≡◌, refl, sym}
use mathlib.Core.Bool.{Bool, true, false, ◌&&◌, ◌||◌, true≢false}
use mathlib.Core.List.{List}
use lib.ListN.{length, take, drop, length-take, length-drop}
use lib.Seq.{take-take, take_at}
use lib.Dec.{ltb, leb, eqb}
use borrow.Author.Tests.{ltb-true, leb-false, eqb-false}
use Rattle.lines.specs.Reading.{part, moved, most, stops, largest, counted_of, counted_all, goes_on}

-- more is read only where the last read gave octets and there are not yet enough of them
pub reads_on : (size count : ℕ) (ended : Bool) → stops size count ended ≡ false → (ended ≡ false) × (count < most)
reads_on size count ended e = by_tests (ltb 0 size) ended (leb most count) refl e
  where
    by_tests : (a b c : Bool) → leb most count ≡ c → (a || b || c) ≡ false → (b ≡ false) × (count < most)
    by_tests false false c p e = (refl, leb-false most count (rw p e))
    by_tests true b c p e = absurd (true≢false e)
    by_tests false true c p e = absurd (true≢false e)

-- what more octets leave alone, they leave alone of a shorter part
pub shorter : (kept have : ℕ) (a b : List ℕ) → kept ≤ have → take have b ≡ take have a → take kept b ≡ take kept a
shorter kept have a b h e = rw (← take-take kept have b h, e, take-take kept have a h) refl

-- the first kept octets are the first of all up to a place after them
pub first-kept : (kept end : ℕ) (a b : List ℕ) → kept ≤ length a → kept ≤ end → take kept b ≡ take kept a → take (length (take kept a)) (take (end - 0) b) ≡ take kept a
first-kept kept end a b h k e =
    let count : length (take kept a) ≡ kept = rw length-take (omega arith) in
    rw (count, sub-zero, take-take kept end b k) e

-- what is moved to the front stands there
pub at_front : (from end : ℕ) (octets : List ℕ) {r : ℕ} {moved_to : List ℕ} → from ≤ end → end ≤ length octets → r ≡ end - from → moved_to ≡ moved from end octets → take r moved_to ≡ part from end octets
at_front from end octets h k n e =
    let count : length (part from end octets) ≡ end - from = rw (length-take, length-drop) (omega arith) in
    rw (n, e) (take_at (part from end octets) (drop (end - from) octets) (end - from) count)

-- the listing goes on only where a message is there
pub has-message : (size messages : ℕ) → goes_on size messages ≡ true → 0 < size
has-message size messages e = ltb-true 0 size (first (ltb 0 size) (ltb messages largest) e)
  where
    first : (a b : Bool) → (a && b) ≡ true → a ≡ true
    first true b e = refl
    first false b e = absurd (true≢false (sym e))

-- and only while messages can be counted
pub can_count : (size messages : ℕ) → goes_on size messages ≡ true → messages < largest
can_count size messages e = ltb-true messages largest (second (ltb 0 size) e)
  where
    second : (a : Bool) {b : Bool} → (a && b) ≡ true → b ≡ true
    second true e = e
    second false e = absurd (true≢false (sym e))

-- a read that does not end the count from a cut on adds to it
pub counted-more : (count got : ℕ) (ended : Bool) → ended ≡ eqb got 0 → counted_all (counted_of count got) ended ≡ false → count < counted_of count got
counted-more count got true e h = absurd (true≢false h)
counted-more count got false e h =
    let some = eqb-false got 0 (sym e) in
    let below = eqb-false (counted_of count got) largest h in
    omega (arith, some, below)
