-- Laws about the arrays of a record: their lengths, the meters one by one, and when a record is consistent.
use mathlib.Core.Path.{◌≡◌, refl, sym}
use Prim.Native.Nat.{ℕ, zero, suc, ◌<◌}
use mathlib.Core.Bool.{true, false, ◌&&◌}
use mathlib.Core.List.{List, [], ◌∷◌}
use native.Mathlib.Nat.{add-zero}
use native.Mathlib.Omega.{arith}
use lib.ListN.{length, get_or, set}
use lib.Seq.{ext_get_or}
use lib.Dec.{eqb}
use borrow.Author.Tests.{eqb-true, eq-eqb}
use Rattle.tags.specs.ChoiceLaws.{and_left, and_right}
use Rattle.receiver.specs.Modes.{channel_count}
use Rattle.receiver.specs.Meters.{Sums, sums, over_limit}
use Rattle.receiver.specs.Record.{record_size, meter_count, gathered_count, sums_of, consistent_up_to, sized, consistent}
use Rattle.receiver.specs.Contract.{readings_of}
use Rattle.receiver.specs.Steps.{no_counts, risen_from}
use Rattle.receiver.specs.declared.Receiver.{Receiver}
use Rattle.receiver.specs.declared.draw.Counts.{Counts}

-- ---- a record's arrays

-- they are as long as a record's are
pub record Sized (r : Receiver) : Type 0 where
  pub channels : length r.channels ≡ record_size
  pub meters : length r.meters ≡ meter_count
  pub gathered : length r.gathered ≡ gathered_count

pub sized-each : (r : Receiver) → sized r ≡ true → Sized r
sized-each r all =
    let l = r.channels in
    let q = r.meters in
    let g = r.gathered in
    let two = and_right (eqb (length l) record_size) (eqb (length q) meter_count && eqb (length g) gathered_count) all in
    record {
      channels = eqb-true (length l) record_size (and_left (eqb (length l) record_size) (eqb (length q) meter_count && eqb (length g) gathered_count) all);
      meters = eqb-true (length q) meter_count (and_left (eqb (length q) meter_count) (eqb (length g) gathered_count) two);
      gathered = eqb-true (length g) gathered_count (and_right (eqb (length q) meter_count) (eqb (length g) gathered_count) two);
    }

-- those of a consistent record are
pub consistent-sized : (r : Receiver) → consistent r ≡ true → Sized r
unfolding consistent
consistent-sized r good = sized-each r (and_left (sized r) _ good)

-- three meters are known one by one
pub three_meters : (l : List ℕ) → length l ≡ meter_count → (get_or l 0 0 ∷ get_or l 1 0 ∷ get_or l 2 0 ∷ []) ≡ l
three_meters l e =
    ext_get_or 0 (get_or l 0 0 ∷ get_or l 1 0 ∷ get_or l 2 0 ∷ []) l (sym e) each
  where
    each : (i : ℕ) → i < 3 → get_or (get_or l 0 0 ∷ get_or l 1 0 ∷ get_or l 2 0 ∷ []) i 0 ≡ get_or l i 0
    each zero h = refl
    each (suc zero) h = refl
    each (suc (suc zero)) h = refl
    each (suc (suc (suc i))) h = absurd (omega arith)

-- and set one by one
pub three_stored : (l : List ℕ) (a b c : ℕ) → length l ≡ meter_count → set (set (set l 0 a) 1 b) 2 c ≡ (a ∷ b ∷ c ∷ [])
three_stored [] a b c e = absurd (omega (arith, e))
three_stored (x ∷ []) a b c e = absurd (omega (arith, e))
three_stored (x ∷ y ∷ []) a b c e = absurd (omega (arith, e))
three_stored (x ∷ y ∷ z ∷ []) a b c e = refl
three_stored (x ∷ y ∷ z ∷ w ∷ l) a b c e = absurd (omega (arith, e))

-- nothing added leaves them
pub risen_none : (r : Receiver) → length r.meters ≡ meter_count → risen_from (readings_of r) no_counts ≡ r.meters
risen_none r e =
    rw (add-zero (get_or r.meters 0 0), add-zero (get_or r.meters 1 0), add-zero (get_or r.meters 2 0)) (three_meters r.meters e)

-- a record is consistent whose arrays have their lengths, whose meters are within their limit and whose channels are
pub consistent_of : (r : Receiver) → Sized r → over_limit (sums_of r) ≡ false → consistent_up_to r.channels channel_count ≡ true → consistent r ≡ true
unfolding consistent
consistent_of r z within sound =
    rw (eq-eqb (length r.channels) record_size z.channels, eq-eqb (length r.meters) meter_count z.meters, eq-eqb (length r.gathered) gathered_count z.gathered, within, sound)

-- what counts add to the meters
abbrev pub added : Counts → Sums
added d = sums d.lit_time d.points d.lit_points
