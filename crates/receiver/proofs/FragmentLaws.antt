-- Every cut of a frame passes (document 02, C-12), over the look-back rule: the law of CutLaws.antt the other way round. Where a frame in one
-- message of type 0x02 is accepted in mode 2, or refused by a check on the whole, its octets may come cut at any places behind the chunk
-- header, as a first fragment and sequels with room for them in the assembly slices: then all fragments but the last are accepted, and the
-- last is answered as the one message.
--     Frame                       the one message, after any judged messages
--     First, Sequel, Sequels, Cut the fragments
--     every_cut_accepted          the law, as the record Passes; it has cut_as_whole in it
use mathlib.Core.Path.{◌≡◌, refl, sym, ap, ◌∙◌}
use Prim.Native.Nat.{ℕ, suc, ◌+◌, ◌%◌, ◌≤◌}
use mathlib.Core.Bool.{Bool, true, false, cond, not, and-false, ◌&&◌, ◌||◌}
use mathlib.Core.List.{List, [], ◌∷◌, ◌++◌, map, append_assoc, append-nil}
use native.Mathlib.Nat.{zero-add}
use native.Mathlib.Omega.{arith}
use lib.ListN.{length, length-append}
use lib.Dec.{ltb, eqb, lit≤}
use borrow.Author.Tests.{le-ltb, eq-eqb, not-false}
use Rattle.tags.specs.Choice.{refuse}
use Rattle.tags.specs.ChoiceLaws.{first-zero_right, refuse-zero}
use Rattle.receiver.specs.Message.{channel_of, type_of, timestamp_of, is_sequel, cclf, routes, closes, data_of}
use Rattle.receiver.specs.Governing.{Configuration, routed_by, meant}
use Rattle.receiver.specs.Chunk.{chunk, is_fragment}
use Rattle.receiver.specs.Gathering.{Gathering, wrap, end_in, whole_of}
use Rattle.receiver.specs.Meters.{Sums, over_limit}
use Rattle.receiver.specs.Checks.{most_octets, header_number, route_number, holder_number, closed_number, governs, sequel_number, match_number, room_number, in_order, own_number}
use Rattle.receiver.specs.Effects.{of_whole, gathering_after}
use Rattle.receiver.specs.LookBack.{Offer, Judged, channels_by, governed_by, gathering_by, running, standing_by, judge, judged}
use Rattle.receiver.proofs.CheckLaws.{number_of-whole, OwnPassed, own-passed, data_length, routed-governs, routed-route, routed-holder, routed-closed}
use Rattle.receiver.proofs.WholeLaws.{own_of_taken, sequel-routes, match_none, whole_number_lem, fragment-passes}
use Rattle.receiver.proofs.CutLaws.{Begins, Gathers, begun, more, Ends, SameFrame, SameAsWhole, gathers-sums, gathers-governed, cut_as_whole}

-- ---- a well-formed cut

-- the frame in one message after the judged messages js: of type 0x02 in mode 2, its own checks passed; the meters are within their limits
pub record Frame (start : Sums) (js : List Judged) (whole : Offer) : Type 0 where
  pub type : type_of whole.octets ≡ 2
  pub mode : (governed_by js whole.octets).mode ≡ 2
  pub taken : (eqb (judge start js whole).number 0 || of_whole (judge start js whole).number) ≡ true
  pub within : over_limit (running start js) ≡ false

-- the first fragment
pub record First (whole f : Offer) : Type 0 where
  pub type : type_of f.octets ≡ 3
  pub header : header_number f.octets ≡ 0
  pub channel : channel_of f.octets ≡ channel_of whole.octets
  pub routing : routes f.octets ≡ routes whole.octets
  pub routed : routes whole.octets ≡ true → routed_by f.octets ≡ routed_by whole.octets
  pub unclosed : closes f.octets ≡ false
  pub enough : 4 ≤ length (data_of f.octets)
  pub room : length (data_of whole.octets) ≤ f.lent.assembly

-- sequel number k
pub record Sequel (whole f : Offer) (k : ℕ) (o : Offer) : Type 0 where
  pub type : type_of o.octets ≡ 0xC0
  pub header : header_number o.octets ≡ 0
  pub channel : channel_of o.octets ≡ channel_of f.octets
  pub timestamp : timestamp_of o.octets ≡ (timestamp_of f.octets + k) % wrap
  pub room : length (data_of whole.octets) ≤ o.lent.assembly

-- sequels numbered from 1, latest first, none of them marked as the last, and the octets of the frame with them
pub data Sequels (whole f : Offer) : List Offer → List ℕ → Type 0 where
  none : Sequels whole f [] (data_of f.octets)
  next : {os : List Offer} {octets : List ℕ} → Sequels whole f os octets → (o : Offer) → Sequel whole f (suc (length os)) o
      → cclf o.octets ≡ false → Sequels whole f (o ∷ os) (octets ++ data_of o.octets)

-- the whole cut: last is the sequel behind them, marked as the last, with the rest of the octets and lent as many rows as the one message
pub record Cut (whole f : Offer) (os : List Offer) (last : Offer) (octets : List ℕ) : Type 0 where
  pub head : First whole f
  pub sequels : Sequels whole f os octets
  pub tail : Sequel whole f (suc (length os)) last
  pub marked : cclf last.octets ≡ true
  pub section : data_of whole.octets ≡ octets ++ data_of last.octets
  pub rows : whole.lent.rows ≡ last.lent.rows

-- ---- offered one after the other

-- the first fragment and the sequels judged behind js
unfoldable pub offered : Sums → List Judged → Offer → List Offer → List Judged
offered start js f [] = judge start js f ∷ js
offered start js f (o ∷ os) = judge start (offered start js f os) o ∷ offered start js f os

-- a message with a number, and accepted
abbrev pub numbered : Offer → ℕ → Judged
numbered o n = record { octets = o.octets; number = n }

abbrev pub accepted : Offer → Judged
accepted o = numbered o 0

-- all but the last are accepted, what cut_as_whole asks of the fragments holds, and so does what it says of the last
pub record Passes (start : Sums) (js : List Judged) (whole f : Offer) (os : List Offer) (last : Offer) (octets : List ℕ) : Type 0 where
  pub numbers : offered start js f os ≡ map accepted os ++ (accepted f ∷ js)
  pub begins : Begins start js f
  pub gathers : Gathers start js f (offered start js f os) octets
  pub ends : Ends start (offered start js f os) f last
  pub same : SameAsWhole start js (offered start js f os) last whole

-- ---- octets

-- a frame that passes 17 to 19 passes them as its first fragment
matched-first : (l r : List ℕ) (v : Configuration) → v.mode ≡ 2 → 4 ≤ length l → match_number (chunk 2 (l ++ r)) v ≡ 0
    → match_number (chunk 3 l) v ≡ 0
unfolding match_number
matched-first [] r v mode enough e = absurd (omega (arith, enough))
matched-first (a ∷ l) r v mode enough e =
    rw (mode, le-ltb (length (a ∷ l)) 4 enough)
    (first-zero_right (refuse (ltb (length (a ∷ (l ++ r))) 4) 18) _ (rw mode at e))

-- ---- what is gathered of the frame: k is the number of the next sequel

abbrev gathered : Offer → ℕ → List ℕ → Gathering
gathered f k octets =
    record {
      is_on = true;
      channel = channel_of f.octets;
      count = length octets;
      octets = octets;
      timestamp = timestamp_of f.octets;
      sequel = k % wrap;
    }

module _ (start : Sums) (js : List Judged) (whole f : Offer) (frame : Frame start js whole) (head : First whole f) where
  abbrev m : List ℕ
  m = whole.octets

  -- what governs the frame
  abbrev v : Configuration
  v = governed_by js f.octets

  whole-passed : OwnPassed m whole.lent.assembly (standing_by start js)
  whole-passed =
      let b = standing_by start js in own-passed m whole.lent.assembly b (own_of_taken m whole.lent b frame.taken)

  first-governed : v ≡ governed_by js m
  first-governed = routed-governs f.octets m head.channel head.routing head.routed (channels_by js)

  first-mode : v.mode ≡ 2
  first-mode = ap (λ (g : Configuration). g.mode) first-governed ∙ frame.mode

  -- a fragment with which a part of the frame is there passes 26
  part_room : (o : Offer) (g : Configuration) (w : Gathering) (part rest : List ℕ) → end_in o.octets w ≡ length part → data_of m ≡ part ++ rest
      → length (data_of m) ≤ o.lent.assembly → room_number o.octets g w o.lent.assembly ≡ 0
  unfolding room_number
  part_room o g w part rest end section room =
      let size : length (data_of m) ≡ length part + length rest = ap length section ∙ length-append part rest in
      let most = data_length m whole-passed.header in
      rw (end, le-ltb o.lent.assembly (length part) (omega (arith, size, room)), le-ltb most_octets (length part) (omega (arith, size, most)), and-false (is_fragment (type_of o.octets) g))

  -- ---- the first fragment

  first-own : (rest : List ℕ) → data_of m ≡ data_of f.octets ++ rest → own_number f.octets f.lent.assembly (standing_by start js) ≡ 0
  unfolding in_order sequel_number
  first-own rest section =
      let g = channels_by js in
      let route = routed-route f.octets m head.channel head.routing head.routed ∙ whole-passed.route in
      let holder = routed-holder f.octets m head.channel head.routing head.routed g ∙ whole-passed.holder in
      let shut = routed-closed f.octets m head.channel head.routing head.routed g ∙ whole-passed.closed in
      let alike = rw (frame.type, section, ← first-governed) at whole-passed.matched in
      let match = matched-first (data_of f.octets) rest v first-mode head.enough alike in
      let room = part_room f v (gathering_by js) (data_of f.octets) rest (rw head.type (omega arith)) section head.room in
      rw (head.header, route, holder, shut, room, head.type, match)

  pub first-begins : (rest : List ℕ) → data_of m ≡ data_of f.octets ++ rest → Begins start js f
  unfolding whole_of
  first-begins rest section =
      record {
        type = head.type;
        mode = first-mode;
        accepted =
            number_of-whole f.octets f.lent (standing_by start js) (first-own rest section)
            ∙ rw head.type
            (fragment-passes (chunk 3 (data_of f.octets)) v f.lent (running start js) (rw first-mode) frame.within);
      }

  -- ---- a sequel

  -- the channel of the frame is open
  first-open : v.is_open ≡ true
  unfolding governs closed_number meant
  first-open =
      go (routes f.octets) (meant (routed_by f.octets)) (channels_by js (channel_of f.octets)) refl
      (routed-closed f.octets m head.channel head.routing head.routed (channels_by js) ∙ whole-passed.closed)
    where
      go : (r : Bool) (g h : Configuration) → g.is_open ≡ true → refuse (not r && not h.is_open) 16 ≡ 0 → (cond r g h).is_open ≡ true
      go true g h e p = e
      go false g h e p = not-false h.is_open (refuse-zero (not h.is_open) 16 (lit≤ tt) p)

  module _ (begins : Begins start js f) {ks : List Judged} {octets : List ℕ} (gathers : Gathers start js f ks octets) (k : ℕ)
      (state : gathering_by ks ≡ gathered f k octets) (o : Offer) (sequel : Sequel whole f k o) where
    abbrev part : List ℕ
    part = octets ++ data_of o.octets

    sequel-governed : governed_by ks o.octets ≡ v
    sequel-governed = gathers-governed start js f begins head.unclosed gathers o.octets sequel.type sequel.channel

    sequel-open : (channels_by ks (channel_of o.octets)).is_open ≡ true
    unfolding governs
    sequel-open = rw sequel.type at (ap (λ (g : Configuration). g.is_open) sequel-governed ∙ first-open)

    -- 24 and 25 pass it
    sequel-follows : sequel_number o.octets v (gathered f k octets) ≡ 0
    unfolding sequel_number
    sequel-follows =
        let turn : (timestamp_of f.octets + k) % wrap ≡ (timestamp_of f.octets + k % wrap) % wrap = omega arith in
        rw (sequel.type, first-mode, eq-eqb (channel_of o.octets) (channel_of f.octets) sequel.channel, eq-eqb (timestamp_of o.octets) ((timestamp_of f.octets + k % wrap) % wrap) (sequel.timestamp ∙ turn))

    sequel-own : (rest : List ℕ) → data_of m ≡ part ++ rest → own_number o.octets o.lent.assembly (standing_by start ks) ≡ 0
    unfolding in_order route_number holder_number closed_number
    sequel-own rest section =
        let is : is_sequel o.octets ≡ true = rw sequel.type in
        let end : end_in o.octets (gathered f k octets) ≡ length part = rw sequel.type (sym (length-append octets (data_of o.octets))) in
        let room = part_room o v (gathered f k octets) part rest end section sequel.room in
        rw (sequel.header, sequel-governed, state, sequel-follows, match_none o.octets is v, room, sequel-routes o.octets is, sequel-open)

    -- not the last, it is accepted
    pub sequel-more : (rest : List ℕ) → data_of m ≡ part ++ rest → cclf o.octets ≡ false → (judge start ks o).number ≡ 0
    unfolding whole_of
    sequel-more rest section unmarked =
        number_of-whole o.octets o.lent (standing_by start ks) (sequel-own rest section)
        ∙ rw (sequel-governed, sequel.type, unmarked, gathers-sums start js f begins gathers)
        (fragment-passes (chunk 0xC0 (data_of o.octets)) v o.lent (running start js) (rw first-mode) frame.within)

    sequel-gathered : (rest : List ℕ) → data_of m ≡ part ++ rest → cclf o.octets ≡ false
        → gathering_by (judge start ks o ∷ ks) ≡ gathered f (suc k) part
    unfolding gathering_by gathering_after
    sequel-gathered rest section unmarked =
        let turn : (k % wrap + 1) % wrap ≡ suc k % wrap = omega arith in
        rw (sequel-more rest section unmarked, sequel-governed, state, sequel.type, unmarked, first-mode, sequel.channel, turn, length-append octets (data_of o.octets))

    -- the last is taken
    pub last-ends : data_of m ≡ part → cclf o.octets ≡ true → Ends start ks f o
    last-ends section marked =
        record {
          type = sequel.type;
          marked = marked;
          channel = sequel.channel;
          taken =
              rw (number_of-whole o.octets o.lent (standing_by start ks) (sequel-own [] (section ∙ sym (append-nil part))))
              (whole_number_lem (whole_of o.octets (governed_by ks o.octets) (gathering_by ks)) (governed_by ks o.octets) o.lent (running start ks));
        }

  -- ---- the sequels in a row

  first-gathered : Begins start js f → gathering_by (judge start js f ∷ js) ≡ gathered f 1 (data_of f.octets)
  unfolding gathering_by gathering_after
  first-gathered begins = rw (begins.accepted, head.unclosed, head.type, first-mode, zero-add (length (data_of f.octets)))

  sequels-begin : {os : List Offer} {octets : List ℕ} → Sequels whole f os octets → (rest : List ℕ) → data_of m ≡ octets ++ rest → Begins start js f
  sequels-begin none rest section = first-begins rest section
  sequels-begin (next {octets = octets} sequels o sequel unmarked) rest section =
      sequels-begin sequels (data_of o.octets ++ rest) (section ∙ append_assoc octets (data_of o.octets) rest)

  sequels-gather : Begins start js f → {os : List Offer} {octets : List ℕ} → Sequels whole f os octets → (rest : List ℕ) → data_of m ≡ octets ++ rest
      → Gathers start js f (offered start js f os) octets
      × (gathering_by (offered start js f os) ≡ gathered f (suc (length os)) octets)
      × (offered start js f os ≡ map accepted os ++ (accepted f ∷ js))
  unfolding offered
  sequels-gather begins none rest section = (begun, first-gathered begins, (λ i. numbered f (begins.accepted i) ∷ js))
  sequels-gather begins (next {os = os} {octets = octets} sequels o sequel unmarked) rest section =
      let before = sequels-gather begins sequels (data_of o.octets ++ rest) (section ∙ append_assoc octets (data_of o.octets) rest) in
      let passes = sequel-more begins before.0 (suc (length os)) before.1 o sequel rest section unmarked in (
        more before.0 o sequel.type unmarked sequel.channel passes,
        sequel-gathered begins before.0 (suc (length os)) before.1 o sequel rest section unmarked,
        (λ i. numbered o (passes i) ∷ before.2 i),
      )

pub every_cut_accepted : (start : Sums) (js : List Judged) (whole f : Offer) (os : List Offer) (last : Offer) (octets : List ℕ)
    → Frame start js whole → Cut whole f os last octets → Passes start js whole f os last octets
every_cut_accepted start js whole f os last octets frame cut =
    let head = cut.head in
    let begins = sequels-begin start js whole f frame head cut.sequels (data_of last.octets) cut.section in
    let gathers = sequels-gather start js whole f frame head begins cut.sequels (data_of last.octets) cut.section in
    let ends = last-ends start js whole f frame head begins gathers.0 (suc (length os)) gathers.1 last cut.tail cut.section cut.marked in
    let one : SameFrame f last whole octets =
    record {
      type = frame.type;
      header = (whole-passed start js whole f frame head).header;
      channel = sym head.channel;
      routing = sym head.routing;
      routed = λ e. sym (head.routed (sym head.routing ∙ e));
      section = cut.section;
      rows = cut.rows;
    } in
    record {
      numbers = gathers.2;
      begins = begins;
      gathers = gathers.0;
      ends = ends;
      same = cut_as_whole start js f begins gathers.0 last whole ends one;
    }

-- ---- in a history: these are the messages judged, and `within` holds by judged_within

pub offered-judged : (start : Sums) (earlier : List Offer) (f : Offer) (os : List Offer)
    → offered start (judged start earlier) f os ≡ judged start (os ++ (f ∷ earlier))
unfolding offered judged
offered-judged start earlier f [] = refl
offered-judged start earlier f (o ∷ os) = ap (λ (ks : List Judged). judge start ks o ∷ ks) (offered-judged start earlier f os)
