-- Laws about the checks in their order: what a message that is accepted has passed, and what it leaves of the meters.
use mathlib.Core.Path.{◌≡◌, refl, sym, ap, ◌∙◌}
use Prim.Native.Nat.{ℕ, zero, suc, ◌<◌, ◌≤◌}
use native.Mathlib.Nat.{add-zero, add_assoc, le_refl, le_trans}
use mathlib.Core.Bool.{Bool, true, false, cond, not, ◌&&◌, ◌||◌}
use mathlib.Core.List.{List, [], ◌∷◌}
use native.Mathlib.Omega.{arith}
use lib.ListN.{length, length-drop}
use lib.Dec.{ltb, eqb, eqb-suc-zero, lit≤}
use borrow.Author.Tests.{eqb-true, ltb-false}
use Rattle.tags.specs.Choice.{refuse, first}
use Rattle.tags.specs.ChoiceLaws.{or-false_left, or-false_right, first-zero_left, first-zero_right, refuse-zero}
use Rattle.receiver.specs.Message.{total_size, channel_of, routes, data_of}
use Rattle.receiver.specs.Modes.{exclusive_mode, channel_count}
use Rattle.receiver.specs.Governing.{Governing, Configuration, routed_by, meant}
use Rattle.receiver.specs.Slices.{Lent}
use Rattle.receiver.specs.Chunk.{chunk_of}
use Rattle.receiver.specs.Gathering.{Gathering, whole_of}
use Rattle.receiver.specs.Meters.{Sums, sums, plus, limit, over_limit, NotAbove, added_by}
use Rattle.receiver.specs.Checks.{least_message, largest_message, most_octets, wrong_length, header_number, routing_number, route_number, held_elsewhere, holder_number, closed_number, governs, sequel_number, match_number, room_number, content_number, meter_number, Standing, governed_in, whole_number, first_number_of, in_order, number_of, own_number}
use Rattle.receiver.specs.Effects.{sums_after}

-- ---- the order: the checks on the message itself, then those on the whole

-- checks in a row, put in brackets the other way
pub first_assoc : (a b c : ℕ) → first a (first b c) ≡ first (first a b) c
first_assoc a b c = go (eqb a 0) refl
  where
    go : (t : Bool) → eqb a 0 ≡ t → cond t (first b c) a ≡ first (cond t b a) c
    go true e = refl
    go false e = rw e

-- with no check behind it
pub first-none : (n : ℕ) → first n 0 ≡ n
first-none zero = refl
first-none (suc n) = rw (eqb-suc-zero n)

-- several in a row, and what comes behind them
first_number_of-first : (ns : List ℕ) (behind : ℕ) → first_number_of ns behind ≡ first (first_number_of ns 0) behind
first_number_of-first [] behind = refl
first_number_of-first (n ∷ ns) behind = ap (λ (k : ℕ). first n k) (first_number_of-first ns behind) ∙ first_assoc n (first_number_of ns 0) behind

in_order-own : (m : List ℕ) (assembly : ℕ) (b : Standing) (whole : ℕ) → in_order m assembly b whole ≡ first (own_number m assembly b) whole
unfolding in_order
in_order-own m assembly b whole =
    let v = governed_in m b in
    first_number_of-first
    (header_number m
    ∷ route_number m
    ∷ closed_number m b.channels
    ∷ sequel_number m v b.gathering
    ∷ match_number (chunk_of m) v
    ∷ holder_number m b.channels
    ∷ room_number m v b.gathering assembly
    ∷ [])
    whole

pub number_of-own : (m : List ℕ) (lent : Lent) (b : Standing)
    → number_of m lent b
    ≡ first (own_number m lent.assembly b) (whole_number (whole_of m (governed_in m b) b.gathering) (governed_in m b) lent b.sums)
unfolding number_of
number_of-own m lent b = in_order-own m lent.assembly b _

-- of a message that passed its own checks
pub number_of-whole : (m : List ℕ) (lent : Lent) (b : Standing) → own_number m lent.assembly b ≡ 0
    → number_of m lent b ≡ whole_number (whole_of m (governed_in m b) b.gathering) (governed_in m b) lent b.sums
number_of-whole m lent b passed = number_of-own m lent b ∙ rw passed

-- ---- the order: every check was passed

-- those on the message itself
pub record OwnPassed (m : List ℕ) (assembly : ℕ) (b : Standing) : Type 0 where
  pub header : header_number m ≡ 0
  pub route : route_number m ≡ 0
  pub closed : closed_number m b.channels ≡ 0
  pub sequel : sequel_number m (governed_in m b) b.gathering ≡ 0
  pub matched : match_number (chunk_of m) (governed_in m b) ≡ 0
  pub holder : holder_number m b.channels ≡ 0
  pub room : room_number m (governed_in m b) b.gathering assembly ≡ 0

pub own-passed : (m : List ℕ) (assembly : ℕ) (b : Standing) → own_number m assembly b ≡ 0 → OwnPassed m assembly b
unfolding in_order
own-passed m assembly b e =
    let r = first-zero_right (header_number m) _ e in
    let c = first-zero_right (route_number m) _ r in
    let q = first-zero_right (closed_number m b.channels) _ c in
    let k = first-zero_right (sequel_number m (governed_in m b) b.gathering) _ q in
    let h = first-zero_right (match_number (chunk_of m) (governed_in m b)) _ k in
    let l = first-zero_right (holder_number m b.channels) _ h in
    record {
      header = first-zero_left (header_number m) _ e;
      route = first-zero_left (route_number m) _ r;
      closed = first-zero_left (closed_number m b.channels) _ c;
      sequel = first-zero_left (sequel_number m (governed_in m b) b.gathering) _ q;
      matched = first-zero_left (match_number (chunk_of m) (governed_in m b)) _ k;
      holder = first-zero_left (holder_number m b.channels) _ h;
      room = first-zero_left (room_number m (governed_in m b) b.gathering assembly) _ l;
    }

-- and of an accepted one those on the whole too
pub accepted-own : (m : List ℕ) (lent : Lent) (b : Standing) → number_of m lent b ≡ 0 → own_number m lent.assembly b ≡ 0
accepted-own m lent b e = first-zero_left (own_number m lent.assembly b) _ (sym (number_of-own m lent b) ∙ e)

-- ---- the header

module _ (m : List ℕ) (passed : header_number m ≡ 0) where
  right_length : wrong_length m ≡ false
  unfolding header_number
  right_length = refuse-zero (wrong_length m) 2 (lit≤ tt) (first-zero_left (refuse (wrong_length m) 2) _ passed)

  message-length : length m ≤ largest_message
  message-length =
      ltb-false largest_message (length m)
      (or-false_right (ltb (length m) least_message) (ltb largest_message (length m))
      (or-false_left (ltb (length m) least_message || ltb largest_message (length m)) (not (eqb (length m) (total_size m))) right_length))

  -- and is no longer than the steps of a chunk take
  pub data_length : length (data_of m) ≤ most_octets
  unfolding data_of
  data_length = let whole = message-length in rw length-drop (omega arith)

pub channel-below : (m : List ℕ) → channel_of m < channel_count
channel-below m = omega arith

-- ---- two messages on one channel that route alike

module _ (m q : List ℕ) (channel : channel_of m ≡ channel_of q) (routing : routes m ≡ routes q)
    (routed : routes q ≡ true → routed_by m ≡ routed_by q) where
  -- what depends on Routing, and only with Routing on what that brings, is the same of both
  routed_same : {A : Type 0} (x : Bool → Governing → A) → ((g h : Governing) → x false g ≡ x false h)
      → x (routes m) (routed_by m) ≡ x (routes q) (routed_by q)
  routed_same x without = rw routing (go (routes q) refl)
    where
      go : (b : Bool) → routes q ≡ b → x b (routed_by m) ≡ x b (routed_by q)
      go true e = ap (x true) (routed e)
      go false e = without (routed_by m) (routed_by q)

  -- so they are governed alike, and 6 to 16 find the same
  pub routed-governs : (c : ℕ → Configuration) → governs m c ≡ governs q c
  unfolding governs
  routed-governs c = rw channel (routed_same (λ b g. cond b (meant g) (c (channel_of q))) (λ g h. refl))

  pub routed-route : route_number m ≡ route_number q
  unfolding route_number
  routed-route = routed_same (λ b g. cond b (routing_number g.mode g.service g.tags) 0) (λ g h. refl)

  pub routed-holder : (c : ℕ → Configuration) → holder_number m c ≡ holder_number q c
  unfolding holder_number
  routed-holder c =
      let held : Governing → Bool = λ g. exclusive_mode g.mode && held_elsewhere c g.mode (channel_of q) channel_count in
      rw channel (routed_same (λ b g. refuse (b && held g) 15) (λ g h. refl))

  pub routed-closed : (c : ℕ → Configuration) → closed_number m c ≡ closed_number q c
  unfolding closed_number
  routed-closed c = rw (routing, channel)

-- ---- sums

pub plus-zero : (s : Sums) → plus s (sums 0 0 0) ≡ s
plus-zero s = rw (add-zero s.lit_time, add-zero s.points, add-zero s.lit_points)

pub plus_assoc : (s a b : Sums) → plus (plus s a) b ≡ plus s (plus a b)
plus_assoc s a b =
    rw (add_assoc s.lit_time a.lit_time b.lit_time, add_assoc s.points a.points b.points, add_assoc s.lit_points a.lit_points b.lit_points)

pub within_each : (s : Sums) → over_limit s ≡ false → (s.lit_time ≤ limit) × (s.points ≤ limit) × (s.lit_points ≤ limit)
within_each s e =
    let both = or-false_left (ltb limit s.lit_time || ltb limit s.points) (ltb limit s.lit_points) e in (
      ltb-false limit s.lit_time (or-false_left (ltb limit s.lit_time) (ltb limit s.points) both),
      ltb-false limit s.points (or-false_right (ltb limit s.lit_time) (ltb limit s.points) both),
      ltb-false limit s.lit_points (or-false_right (ltb limit s.lit_time || ltb limit s.points) (ltb limit s.lit_points) e),
    )

pub NotAbove_refl : (s : Sums) → NotAbove s s
NotAbove_refl s = (le_refl _, le_refl _, le_refl _)

pub NotAbove_trans : (a b c : Sums) → NotAbove a b → NotAbove b c → NotAbove a c
NotAbove_trans a b c p q = (le_trans p.0 q.0, le_trans p.1 q.1, le_trans p.2 q.2)

-- ---- the meters over one message

-- an accepted message leaves every meter within its limit
pub accepted_within : (m : List ℕ) (lent : Lent) (b : Standing) → number_of m lent b ≡ 0
    → over_limit (plus b.sums (added_by (whole_of m (governed_in m b) b.gathering) (governed_in m b))) ≡ false
unfolding whole_number meter_number
accepted_within m lent b e =
    refuse-zero _ 23 (lit≤ tt)
    (first-zero_right (content_number (whole_of m (governed_in m b) b.gathering) (governed_in m b) lent) _
    (first-zero_right (own_number m lent.assembly b) _ (sym (number_of-own m lent b) ∙ e)))

-- the meters stay within their limit over one message
pub sums_after_within : (m : List ℕ) (lent : Lent) (b : Standing) → over_limit b.sums ≡ false
    → over_limit (sums_after m (number_of m lent b) (governed_in m b) b.gathering b.sums) ≡ false
unfolding sums_after
sums_after_within m lent b h = go (eqb (number_of m lent b) 0) refl
  where
    go : (t : Bool) → eqb (number_of m lent b) 0 ≡ t
        → over_limit (cond t (plus b.sums (added_by (whole_of m (governed_in m b) b.gathering) (governed_in m b))) b.sums) ≡ false
    go true p = accepted_within m lent b (eqb-true _ 0 p)
    go false p = h

-- no meter falls over one message, whatever its number
pub sums_after-grows : (m : List ℕ) (n : ℕ) (v : Configuration) (w : Gathering) (s : Sums) → NotAbove s (sums_after m n v w s)
unfolding sums_after
sums_after-grows m n v w s = go (eqb n 0)
  where
    go : (b : Bool) → NotAbove s (cond b (plus s (added_by (whole_of m v w) v)) s)
    go true = omega arith
    go false = omega arith
