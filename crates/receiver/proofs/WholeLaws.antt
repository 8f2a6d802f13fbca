-- Laws about the numbers of a message's own checks and of those on the whole: 20 to 23 are the whole's alone, so that the number that a
-- message is answered with tells whether its fragment was taken.
use mathlib.Core.Path.{◌≡◌, refl, sym, ◌∙◌}
use Prim.Native.Nat.{ℕ, zero, suc, ◌*◌}
use mathlib.Core.Bool.{Bool, true, false, false≢true, cond, not, and-false, or-true, ◌&&◌, ◌||◌}
use mathlib.Core.Logic.{◌⊎◌, inl, inr}
use mathlib.Core.List.{List}
use lib.ListN.{length}
use lib.Dec.{ltb, eqb, eqb-suc-zero}
use borrow.Author.Tests.{eqb-true}
use Rattle.tags.specs.Choice.{refuse, first}
use Rattle.tags.specs.ChoiceLaws.{and_left, or_cases, refuse-holds, first_holds}
use Rattle.tags.specs.Limits.{row_size, place_count}
use Rattle.tags.specs.Dictionary.{dictionary_number}
use Rattle.tags.specs.Dimmer.{dimmer_number}
use Rattle.tags.specs.RefusalLaws.{dictionary_number-holds, dimmer_number-holds}
use Rattle.tags.specs.Rows.{sample_octets, samples_of, points_for}
use Rattle.tags.specs.Levels.{levels_fit}
use Rattle.receiver.specs.Message.{top_bit, channel_of, type_of, timestamp_of, sequel_type, is_sequel, is_last, routes, service_of, mode_of, tags_of, data_of}
use Rattle.receiver.specs.Modes.{graphic_mode, dimmer_mode, void_mode, known_mode, service_fits, exclusive_mode, channel_count}
use Rattle.receiver.specs.Governing.{Configuration}
use Rattle.receiver.specs.Slices.{Lent}
use Rattle.receiver.specs.Chunk.{Chunk, chunk_of, fragment_type, known_type, is_drawing, is_dimming, is_fragment, body}
use Rattle.receiver.specs.Gathering.{Gathering, gathers_on, next_timestamp, end_in, whole_of}
use Rattle.receiver.specs.Meters.{Sums, plus, over_limit, added_by}
use Rattle.receiver.specs.Checks.{most_octets, wrong_length, passes_end, type_fits, wrong_data, mismatched, wrong_count, header_number, tags_number, routing_number, route_number, held_elsewhere, holder_number, closed_number, sequel_number, match_number, room_number, draw_number, dim_number, content_number, meter_number, whole_number, Standing, governed_in, in_order, number_of, own_number}
use Rattle.receiver.specs.Effects.{of_whole, takes}
use Rattle.receiver.specs.Steps.{taken}
use Rattle.receiver.proofs.CheckLaws.{number_of-own}
use Rattle.receiver.proofs.MeterLaws.{meter-idle}

-- ---- checks in a row that give no number of the whole

abbrev NotWhole : ℕ → Type 0
NotWhole n = of_whole n ≡ false

of_whole-refuse : (b : Bool) (n : ℕ) → of_whole n ≡ false → of_whole (refuse b n) ≡ false
of_whole-refuse b n = refuse-holds NotWhole b n refl

of_whole-first : (x y : ℕ) → of_whole x ≡ false → of_whole y ≡ false → of_whole (first x y) ≡ false
of_whole-first = first_holds NotWhole

routing-NotWhole : (mode service : ℕ) (tags : List ℕ) → of_whole (routing_number mode service tags) ≡ false
unfolding routing_number tags_number
routing-NotWhole mode service tags =
    of_whole-first (refuse (not (known_mode mode)) 6) _ (of_whole-refuse (not (known_mode mode)) 6 refl)
    (of_whole-first (refuse (not (service_fits mode service)) 7) _ (of_whole-refuse (not (service_fits mode service)) 7 refl)
    (go (graphic_mode mode) (dimmer_mode mode)))
  where
    go : (a b : Bool) → of_whole (cond a (dictionary_number mode tags) (cond b (dimmer_number tags) 0)) ≡ false
    go true b = dictionary_number-holds NotWhole refl refl refl refl refl refl mode tags
    go false true = dimmer_number-holds NotWhole refl refl refl tags
    go false false = refl

-- the checks of a message on itself
module _ (m : List ℕ) where
  header-NotWhole : of_whole (header_number m) ≡ false
  unfolding header_number
  header-NotWhole = go (wrong_length m) (eqb (top_bit m) 0) (not (known_type (type_of m))) (passes_end m)
    where
      go : (a b c d : Bool) → of_whole (first (refuse a 2) (first (refuse b 3) (first (refuse c 4) (refuse d 5)))) ≡ false
      go true b c d = refl
      go false true c d = refl
      go false false true d = refl
      go false false false true = refl
      go false false false false = refl

  route-NotWhole : of_whole (route_number m) ≡ false
  unfolding route_number
  route-NotWhole = go (routes m)
    where
      go : (b : Bool) → of_whole (cond b (routing_number (mode_of m) (service_of m) (tags_of m)) 0) ≡ false
      go true = routing-NotWhole (mode_of m) (service_of m) (tags_of m)
      go false = refl

  sequel-NotWhole : (v : Configuration) (w : Gathering) → of_whole (sequel_number m v w) ≡ false
  unfolding sequel_number
  sequel-NotWhole v w =
      go (is_sequel m && not (void_mode v.mode)) (not (gathers_on w (channel_of m))) (not (eqb (timestamp_of m) (next_timestamp w)))
    where
      go : (a b c : Bool) → of_whole (cond a (first (refuse b 24) (refuse c 25)) 0) ≡ false
      go true true c = refl
      go true false true = refl
      go true false false = refl
      go false b c = refl

  match-NotWhole : (v : Configuration) → of_whole (match_number (chunk_of m) v) ≡ false
  unfolding match_number
  match-NotWhole v =
      let k = chunk_of m in
      go (void_mode v.mode || is_sequel m) (not (type_fits k v)) (wrong_data (type_of m) (length (data_of m))) (mismatched k v)
    where
      go : (a b c d : Bool) → of_whole (cond a 0 (first (refuse b 17) (first (refuse c 18) (refuse d 19)))) ≡ false
      go true b c d = refl
      go false true c d = refl
      go false false true d = refl
      go false false false true = refl
      go false false false false = refl

  pub own-NotWhole : (n : ℕ) (b : Standing) → of_whole (own_number m n b) ≡ false
  unfolding in_order holder_number closed_number room_number
  own-NotWhole n b =
      let v = governed_in m b in
      let held = routes m && (exclusive_mode (mode_of m) && held_elsewhere b.channels (mode_of m) (channel_of m) channel_count) in
      let shut = not (routes m) && not (b.channels (channel_of m)).is_open in
      let short = is_fragment (type_of m) v && (ltb n (end_in m b.gathering) || ltb most_octets (end_in m b.gathering)) in
      of_whole-first (header_number m) _ header-NotWhole
      (of_whole-first (route_number m) _ route-NotWhole
      (of_whole-first (refuse shut 16) _ (of_whole-refuse shut 16 refl)
      (of_whole-first (sequel_number m v b.gathering) _ (sequel-NotWhole v b.gathering)
      (of_whole-first (match_number (chunk_of m) v) _ (match-NotWhole v)
      (of_whole-first (refuse held 15) _ (of_whole-refuse held 15 refl)
      (of_whole-first (refuse short 26) 0 (of_whole-refuse short 26 refl) refl))))))

  -- so a message that is accepted, or refused by a check on the whole, passed them
  pub own_of_taken : (lent : Lent) (b : Standing) → (eqb (number_of m lent b) 0 || of_whole (number_of m lent b)) ≡ true → own_number m lent.assembly b ≡ 0
  own_of_taken lent b taken =
      go (own_number m lent.assembly b) _ (own-NotWhole lent.assembly b) (rw (number_of-own m lent b) at taken)
    where
      go : (n x : ℕ) → of_whole n ≡ false → (eqb (first n x) 0 || of_whole (first n x)) ≡ true → n ≡ 0
      go zero x outside taken = refl
      go (suc n) x outside taken = absurd (false≢true (sym outside ∙ (rw (eqb-suc-zero n, eqb-suc-zero n) at taken)))

-- a sequel brings no configuration, and 17 to 19 pass it by
module _ (m : List ℕ) (sequel : is_sequel m ≡ true) where
  pub sequel-routes : routes m ≡ false
  sequel-routes = rw sequel

  pub match_none : (v : Configuration) → match_number (chunk_of m) v ≡ 0
  unfolding match_number
  match_none v = rw (sequel, or-true (void_mode v.mode))

-- ---- checks 20 to 23 give no other number

abbrev whole_or_none : ℕ → Bool
whole_or_none n = eqb n 0 || of_whole n

whole-refuse : (b : Bool) (n : ℕ) → whole_or_none n ≡ true → whole_or_none (refuse b n) ≡ true
whole-refuse true n e = e
whole-refuse false n e = refl

whole-first : (x y : ℕ) → whole_or_none x ≡ true → whole_or_none y ≡ true → whole_or_none (first x y) ≡ true
whole-first x y e f = go (eqb x 0)
  where
    go : (b : Bool) → whole_or_none (cond b y x) ≡ true
    go true = f
    go false = e

content_whole : (k : Chunk) (v : Configuration) (lent : Lent) → whole_or_none (content_number k v lent) ≡ true
unfolding content_number draw_number dim_number
content_whole k v lent =
    go (is_drawing k.type v) (is_dimming k.type v) (wrong_count k.type (sample_octets v.sample) (length (body k)))
    (ltb lent.rows (points_for (samples_of (sample_octets v.sample) (length (body k))) * row_size))
    (not (levels_fit v.mapping (length (body k))))
    (ltb lent.levels place_count)
  where
    go : (a b c d e f : Bool) → whole_or_none (cond a (first (refuse c 20) (refuse d 22)) (cond b (first (refuse e 21) (refuse f 22)) 0)) ≡ true
    go true b true d e f = refl
    go true b false true e f = refl
    go true b false false e f = refl
    go false true c d true f = refl
    go false true c d false true = refl
    go false true c d false false = refl
    go false false c d e f = refl

pub whole_number_lem : (k : Chunk) (v : Configuration) (lent : Lent) (s : Sums) → whole_or_none (whole_number k v lent s) ≡ true
unfolding whole_number meter_number
whole_number_lem k v lent s =
    whole-first (content_number k v lent) (meter_number k v s) (content_whole k v lent) (whole-refuse (over_limit (plus s (added_by k v))) 23 refl)

-- ---- a fragment was taken: by its own number, and by that which it is answered with

-- a fragment that is not the last is nothing to draw, and passes 20 to 23
module _ (t : ℕ) (v : Configuration) (f : is_fragment t v ≡ true) where
  fragment-types : (t ≡ 3) ⊎ (t ≡ 0xC0)
  fragment-types = go (or_cases (eqb t 3) (sequel_type t) (and_left (fragment_type t) (eqb v.mode 2) f))
    where
      go : (eqb t 3 ≡ true) ⊎ (sequel_type t ≡ true) → (t ≡ 3) ⊎ (t ≡ 0xC0)
      go (inl e) = inl (eqb-true t 3 e)
      go (inr e) = inr (eqb-true t 0xC0 e)

  fragment-not-drawing : is_drawing t v ≡ false
  fragment-not-drawing = go fragment-types
    where
      go : (t ≡ 3) ⊎ (t ≡ 0xC0) → is_drawing t v ≡ false
      go (inl e) = rw e
      go (inr e) = rw e

  fragment-not_dimming : is_dimming t v ≡ false
  fragment-not_dimming = go fragment-types
    where
      go : (t ≡ 3) ⊎ (t ≡ 0xC0) → is_dimming t v ≡ false
      go (inl e) = rw e
      go (inr e) = rw e

pub fragment-passes : (k : Chunk) (v : Configuration) (lent : Lent) (s : Sums) → is_fragment k.type v ≡ true → over_limit s ≡ false
    → whole_number k v lent s ≡ 0
unfolding whole_number content_number
fragment-passes k v lent s f within =
    let idle = fragment-not-drawing k.type v f in rw (idle, fragment-not_dimming k.type v f) (meter-idle k v s idle within)

module _ (m : List ℕ) (own : ℕ) (v : Configuration) (w : Gathering) (lent : Lent) (s : Sums)
    (within : own ≡ 0 → over_limit s ≡ false) (unlike : is_last m ≡ true → of_whole own ≡ false) where
  -- the number of the whole
  abbrev whole : ℕ
  whole = whole_number (whole_of m v w) v lent s

  -- of a fragment that is not the last it is 0
  whole-none : is_fragment (type_of m) v ≡ true → is_last m ≡ false → own ≡ 0 → whole ≡ 0
  unfolding whole_of
  whole-none f l z = rw l (fragment-passes (chunk_of m) v lent s f (within z))

  pub takes-taken : takes m (first own whole) v ≡ taken own m v
  takes-taken = by_tests (is_fragment (type_of m) v) (is_last m) (eqb own 0) refl refl refl
    where
      by_tests : (f l b : Bool) → is_fragment (type_of m) v ≡ f → is_last m ≡ l → eqb own 0 ≡ b
          → takes m (first own whole) v ≡ taken own m v
      by_tests false l b e g h = rw (e, and-false (eqb own 0))
      by_tests true true false e g h = rw (e, g, h, h, unlike g)
      by_tests true false false e g h = rw (e, g, h, h)
      by_tests true true true e g h = rw (e, g, h) (whole_number_lem (whole_of m v w) v lent s)
      by_tests true false true e g h = rw (e, g, h, whole-none e g (eqb-true own 0 h))
