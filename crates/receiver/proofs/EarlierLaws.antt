-- Laws of a message and its chunk: where the data section starts, how many points are lit, the meters far from their limits, and the
-- number of a message that checks 1 to 14 let pass.
use mathlib.Core.Path.{◌≡◌, refl, sym, ◌∙◌}
use Prim.Native.Nat.{ℕ, ◌+◌, ◌≤◌}
use mathlib.Core.Bool.{Bool, true, false, cond, not, ◌||◌}
use mathlib.Core.List.{List}
use native.Mathlib.Nat.{le_trans}
use native.Mathlib.Omega.{arith}
use lib.ListN.{length, length-drop}
use lib.Dec.{ltb, eqb, lit≤}
use borrow.Author.Tests.{ltb-false, le-ltb}
use Rattle.tags.specs.Rows.{points_by}
use Rattle.tags.specs.RowsLaws.{points-le-octets}
use Rattle.tags.specs.Dictionary.{Sample}
use Rattle.tags.specs.Kept.{sample_in}
use Rattle.tags.specs.Choice.{refuse, first}
use Rattle.tags.specs.ChoiceLaws.{or-false_left, or-false_right, first-zero_left, first-zero_right, refuse-zero, not-zero}
use Rattle.receiver.specs.Message.{top_bit, type_of, data_start}
use Rattle.receiver.specs.Governing.{Configuration}
use Rattle.receiver.specs.Chunk.{Chunk, chunk_of, known_type, is_drawing, duration, body, lit_points_for}
use Rattle.receiver.specs.Meters.{Sums, sums, limit, over_limit}
use Rattle.receiver.specs.Checks.{most_octets, wrong_length, passes_end, header_number, route_number, holder_number, closed_number, governs, sequel_number, match_number, room_number, meter_number, in_order, own_number}
use Rattle.receiver.specs.Record.{channels_of, configuration_of, gathering_of, standing_of, consistent_at, consistent, Config}
use Rattle.receiver.specs.Steps.{Found}
use Rattle.receiver.specs.declared.Receiver.{Receiver}
use Rattle.receiver.proofs.ChunkLaws.{lit-le-points}
use Rattle.receiver.proofs.MeterLaws.{meter-drawing}

-- ---- the data section

-- it starts within a message that 2 to 5 let pass
module _ (m : List ℕ) (passed : header_number m ≡ 0) where
  pub data_start_lem : data_start m ≤ length m
  unfolding header_number
  data_start_lem =
      ltb-false (length m) (data_start m)
      (refuse-zero (passes_end m) 5 (lit≤ tt)
      (first-zero_right (refuse (not (known_type (type_of m))) 4) _
      (first-zero_right (refuse (eqb (top_bit m) 0) 3) _ (first-zero_right (refuse (wrong_length m) 2) _ passed))))

-- ---- the points of a chunk

-- no more than it has octets are lit
module _ (k : Chunk) (h : length k.octets ≤ most_octets) where
  body-few : length (body k) ≤ most_octets
  body-few = rw length-drop (omega arith)

  pub lit-few : (s : Sample) (b : Bool) → cond b (lit_points_for k s) 0 ≤ most_octets
  lit-few s true = le_trans (lit-le-points k s) (le_trans (points-le-octets s (body k)) body-few)
  lit-few s false = omega arith

-- ---- check 23

-- where no meter would pass its limit with the whole Duration and every point lit, none does with less
far_from_limit : (l p q t n x y : ℕ) → over_limit (sums (l + t) (p + n) (q + n)) ≡ false → x ≤ t → y ≤ n
    → over_limit (sums (l + x) (p + n) (q + y)) ≡ false
far_from_limit l p q t n x y e hx hy =
    let both = or-false_left (ltb limit (l + t) || ltb limit (p + n)) (ltb limit (q + n)) e in
    let a = ltb-false limit (l + t) (or-false_left (ltb limit (l + t)) (ltb limit (p + n)) both) in
    let b = ltb-false limit (q + n) (or-false_right (ltb limit (l + t) || ltb limit (p + n)) (ltb limit (q + n)) e) in
    rw (le-ltb limit (l + x) (omega arith), or-false_right (ltb limit (l + t)) (ltb limit (p + n)) both, le-ltb limit (q + y) (omega arith))

pub meter-far : (k : Chunk) (held : Config) (area : List ℕ) (s : Sums) (p time : ℕ) → is_drawing k.type (configuration_of held area) ≡ true
    → p ≡ points_by (sample_in held.size held.colours area) (body k) → time ≡ duration k
    → over_limit (sums (s.lit_time + time) (s.points + p) (s.lit_points + p)) ≡ false
    → meter_number k (configuration_of held area) s ≡ 0
meter-far k held area s p time d ep et far =
    let sample = sample_in held.size held.colours area in
    let lit = lit_points_for k sample in
    meter-drawing k held area s p lit (cond (eqb lit 0) 0 (duration k)) d ep refl refl
    ∙ rw
    (far_from_limit s.lit_time s.points s.lit_points time p (cond (eqb lit 0) 0 (duration k)) lit far (rw et (less (eqb lit 0)))
    (rw ep (lit-le-points k sample)))
  where
    less : (b : Bool) → cond b 0 (duration k) ≤ duration k
    less true = omega arith
    less false = omega arith

-- ---- the number of a message, by what governs it

-- checks 1 to 14
abbrev pub governing_number : Receiver → List ℕ → ℕ
governing_number r m = cond (consistent r) (first (header_number m) (route_number m)) 1

-- What governs the message: the number of checks 1 to 14, and where it is 0 the configuration that governs, with its area
pub record Governed (r : Receiver) (m : List ℕ) (f : Found) (area : List ℕ) : Type 0 where
  pub number : f.number ≡ governing_number r m
  pub config : f.number ≡ 0 → configuration_of f.config area ≡ governs m (channels_of r)
  pub sound : f.number ≡ 0 → consistent_at f.config ≡ true

-- the number of the message itself, with a slice of so many octets lent, which are the list's
abbrev pub own_number_of : Receiver → List ℕ → ℕ → List ℕ → ℕ
own_number_of r m n assembly = cond (consistent r) (own_number m n (standing_of r assembly)) 1

module _ (r : Receiver) (m : List ℕ) (f : Found) (area : List ℕ) (governed : Governed r m f area) where
  module _ (passed : f.number ≡ 0) where
    good : consistent r ≡ true
    good = go (consistent r) refl
      where
        go : (b : Bool) → consistent r ≡ b → consistent r ≡ true
        go true e = e
        go false e = absurd (not-zero f.number 1 (lit≤ tt) (governed.number ∙ rw e) passed)

    both : first (header_number m) (route_number m) ≡ 0
    both = let e = sym governed.number ∙ passed in rw good at e

    abbrev v : Configuration
    v = configuration_of f.config area

    -- the later checks give it where 1 to 14 let the message pass
    pub number-later : (n : ℕ) (a : List ℕ)
        → own_number_of r m n a
        ≡ first (closed_number m (channels_of r))
        (first (sequel_number m v (gathering_of r a))
        (first (match_number (chunk_of m) v)
        (first (holder_number m (channels_of r)) (first (room_number m v (gathering_of r a) n) 0))))
    unfolding in_order
    number-later n a =
        rw
        (good, first-zero_left (header_number m) (route_number m) both, first-zero_right (header_number m) (route_number m) both, ← governed.config passed)
