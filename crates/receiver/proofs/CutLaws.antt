-- The law of a cut frame (document 02, C-12), over the look-back rule: cut a frame's octets at any places into a first fragment and
-- sequels, none of them refused; then points, lit points, rows and meters are those of the same frame in one message of type 0x02, where it
-- fits one. And where the last fragment is refused because the whole is, by 20, 22 or 23, that message is refused by the same number.
--     Begins, Gathers, Ends       the fragments, offered one after the other after any judged messages
--     SameFrame                   the one message
--     cut_as_whole                the law, as the record SameAsWhole
-- That the fragments of such a message are not refused is in FragmentLaws.antt.
use mathlib.Core.Path.{◌≡◌, refl, sym, ap, ◌∙◌}
use Prim.Native.Nat.{ℕ, zero, suc}
use mathlib.Core.Bool.{Bool, true, false, cond, not, ◌&&◌, ◌||◌}
use mathlib.Core.List.{List, [], ◌∷◌, ◌++◌}
use native.Mathlib.Omega.{arith}
use lib.ListN.{length, length-append}
use lib.IntN.{ℤ}
use lib.Dec.{ltb, eqb, lit≤, eqb-suc-zero}
use borrow.Author.Tests.{ltb-false, le-ltb, eq-eqb, not-false}
use Rattle.tags.specs.Choice.{refuse}
use Rattle.tags.specs.ChoiceLaws.{first-zero_left, first-zero_right, refuse-zero}
use Rattle.receiver.specs.Message.{channel_of, type_of, is_last, cclf, routes, closes, data_of}
use Rattle.receiver.specs.Governing.{Governing, Configuration, closed, routed_by, meant}
use Rattle.receiver.specs.Slices.{Slices, slices}
use Rattle.receiver.specs.Chunk.{Chunk, chunk, is_drawing, points_of, lit_points_of}
use Rattle.receiver.specs.Gathering.{Gathering, whole_of}
use Rattle.receiver.specs.Meters.{Sums, added_by}
use Rattle.receiver.specs.Checks.{header_number, closed_number, governs, sequel_number, match_number, room_number, content_number, whole_number, in_order, own_number}
use Rattle.receiver.specs.Effects.{reply_of, drawn, of_whole, slices_after, sums_after, gathering_after}
use Rattle.receiver.specs.LookBack.{Offer, Judged, lookback, channels_by, governed_by, gathering_by, worked_out, running, standing_by, judge}
use Rattle.receiver.specs.declared.Reply.{Reply}
use Rattle.receiver.proofs.CheckLaws.{number_of-whole, OwnPassed, own-passed, accepted-own, routed-route, routed-holder, routed-closed, routed-governs, plus-zero}
use Rattle.receiver.proofs.WholeLaws.{own_of_taken}

-- ---- the cut: messages on one channel, offered after the judged messages js

-- the first fragment, accepted in mode 2
pub record Begins (start : Sums) (js : List Judged) (f : Offer) : Type 0 where
  pub type : type_of f.octets ≡ 3
  pub mode : (governed_by js f.octets).mode ≡ 2
  pub accepted : (judge start js f).number ≡ 0

-- with sequels behind it, accepted and none of them the last: all messages judged by then, and the octets of the frame so far
pub data Gathers (start : Sums) (js : List Judged) (f : Offer) : List Judged → List ℕ → Type 0 where
  begun : Gathers start js f (judge start js f ∷ js) (data_of f.octets)
  more : {ks : List Judged} {octets : List ℕ} → Gathers start js f ks octets → (o : Offer)
      → type_of o.octets ≡ 0xC0 → cclf o.octets ≡ false → channel_of o.octets ≡ channel_of f.octets
      → (judge start ks o).number ≡ 0
      → Gathers start js f (judge start ks o ∷ ks) (octets ++ data_of o.octets)

-- the last sequel: accepted, or refused by a check on the whole, 20 to 23
pub record Ends (start : Sums) (ks : List Judged) (f last : Offer) : Type 0 where
  pub type : type_of last.octets ≡ 0xC0
  pub marked : cclf last.octets ≡ true
  pub channel : channel_of last.octets ≡ channel_of f.octets
  pub taken : (eqb (judge start ks last).number 0 || of_whole (judge start ks last).number) ≡ true

-- ---- the whole: one message of type 0x02, within its size, with the channel and the configuration of the first fragment and with all
-- octets of the frame, lent as many rows as the last fragment; Close acts after a message, so it plays no part

pub record SameFrame (f last whole : Offer) (octets : List ℕ) : Type 0 where
  pub type : type_of whole.octets ≡ 2
  pub header : header_number whole.octets ≡ 0
  pub channel : channel_of whole.octets ≡ channel_of f.octets
  pub routing : routes whole.octets ≡ routes f.octets
  pub routed : routes f.octets ≡ true → routed_by whole.octets ≡ routed_by f.octets
  pub section : data_of whole.octets ≡ octets ++ data_of last.octets
  pub rows : whole.lent.rows ≡ last.lent.rows

-- ---- the same

-- replies, but for the type and the timestamp, which are each message's own
pub record SameReply (r q : Reply) : Type 0 where
  pub number : r.number ≡ q.number
  pub channel : r.channel ≡ q.channel
  pub space : r.space ≡ q.space
  pub points : r.points ≡ q.points
  pub lit_points : r.lit_points ≡ q.lit_points
  pub levels : r.levels ≡ q.levels

-- rows and levels
abbrev pub SameDrawn : Slices → Slices → Type 0
SameDrawn s t = (s.rows ≡ t.rows) × (s.levels ≡ t.levels)

-- what the rule replies to one more message, and how it leaves the slices
abbrev pub replied : Sums → List Judged → Offer → Reply
replied start js o = reply_of o.octets (judge start js o).number (governed_by js o.octets) (gathering_by js)

abbrev pub left : Sums → List Judged → Offer → Slices → Slices
left start js o s = slices_after o.octets (judge start js o).number (governed_by js o.octets) (gathering_by js) s

-- the last fragment after the messages ks, and the whole after js; rows and levels are the same whatever the assembly slices a and b hold
pub record SameAsWhole (start : Sums) (js ks : List Judged) (last whole : Offer) : Type 0 where
  pub number : (judge start ks last).number ≡ (judge start js whole).number
  pub reply : SameReply (replied start ks last) (replied start js whole)
  pub slices : (rows : List ℤ) (levels a b : List ℕ)
      → SameDrawn (left start ks last (slices rows levels a)) (left start js whole (slices rows levels b))
  pub meters : worked_out (judge start ks last ∷ ks) ≡ worked_out (judge start js whole ∷ js)

-- ---- one message of the list

-- an accepted sequel decides nothing of a channel
lookback-sequel : (j : Judged) (js : List Judged) (c : ℕ) → type_of j.octets ≡ 0xC0 → j.number ≡ 0 → lookback (j ∷ js) c ≡ lookback js c
unfolding lookback
lookback-sequel j js c type accepted = rw (accepted, type)

-- an accepted message that is nothing to draw adds nothing
idle_sums : (j : Judged) (js : List Judged) → is_last j.octets ≡ false
    → is_drawing (type_of j.octets) (governed_by js j.octets) ≡ false → j.number ≡ 0 → worked_out (j ∷ js) ≡ worked_out js
unfolding worked_out sums_after whole_of added_by points_of lit_points_of
idle_sums j js unmarked idle accepted = rw (accepted, unmarked, idle) (plus-zero (worked_out js))

-- with more octets behind it a frame passes 17 to 19 as it did
matched-more : (l r : List ℕ) (v : Configuration) → v.mode ≡ 2 → match_number (chunk 2 l) v ≡ 0 → match_number (chunk 2 (l ++ r)) v ≡ 0
unfolding match_number
matched-more [] r v mode e = let short : ◌≡◌ {A = ℕ} 18 0 = rw mode at e in absurd (omega (arith, short))
matched-more (a ∷ l) r v mode e =
    let few = ltb (length (a ∷ l)) 4 in
    let passed = rw mode at e in
    let enough = ltb-false (length (a ∷ l)) 4 (refuse-zero few 18 (lit≤ tt) (first-zero_left (refuse few 18) _ passed)) in
    rw (mode, le-ltb (length (a ∷ (l ++ r))) 4 (omega (arith, length-append l r))) (first-zero_right (refuse few 18) _ passed)

-- two messages with one number, one configuration and one chunk to draw are answered alike, and draw alike
module _ (m q : List ℕ) (v : Configuration) (w u : Gathering) (chunks : whole_of m v w ≡ whole_of q v u) where
  same_reply : (n : ℕ) → channel_of m ≡ channel_of q → SameReply (reply_of m n v w) (reply_of q n v u)
  unfolding reply_of
  same_reply zero channel =
      rw (chunks, channel) (record { number = refl; channel = refl; space = refl; points = refl; lit_points = refl; levels = refl })
  same_reply (suc n) channel =
      rw (eqb-suc-zero n) (record { number = refl; channel = refl; space = refl; points = refl; lit_points = refl; levels = refl })

  same_slices : (n : ℕ) (rows : List ℤ) (levels a b : List ℕ)
      → SameDrawn (slices_after m n v w (slices rows levels a)) (slices_after q n v u (slices rows levels b))
  unfolding slices_after drawn
  same_slices zero rows levels a b = rw chunks (refl, refl)
  same_slices (suc n) rows levels a b = rw (eqb-suc-zero n) (refl, refl)

-- ---- while the frame is gathered

module _ (start : Sums) (js : List Judged) (f : Offer) (begins : Begins start js f) where
  -- what governs the frame
  abbrev v : Configuration
  v = governed_by js f.octets

  first-passed : OwnPassed f.octets f.lent.assembly (standing_by start js)
  first-passed =
      let b = standing_by start js in own-passed f.octets f.lent.assembly b (accepted-own f.octets f.lent b begins.accepted)

  -- the channels are as the first fragment left them
  gathers-channels : {ks : List Judged} {octets : List ℕ} → Gathers start js f ks octets → (c : ℕ)
      → lookback ks c ≡ lookback (judge start js f ∷ js) c
  gathers-channels begun c = refl
  gathers-channels (more {ks = ks} gathers o type unmarked same accepted) c =
      lookback-sequel (judge start ks o) ks c type accepted ∙ gathers-channels gathers c

  -- the meters as they were before it
  pub gathers-sums : {ks : List Judged} {octets : List ℕ} → Gathers start js f ks octets → worked_out ks ≡ worked_out js
  gathers-sums begun = idle_sums (judge start js f) js (rw begins.type) (rw begins.type) begins.accepted
  gathers-sums (more {ks = ks} gathers o type unmarked same accepted) =
      idle_sums (judge start ks o) ks (rw (type, unmarked)) (rw type) accepted ∙ gathers-sums gathers

  -- the octets pass 17 to 19 as those of the first fragment do
  gathers-matched : {ks : List Judged} {octets : List ℕ} → Gathers start js f ks octets → match_number (chunk 2 octets) v ≡ 0
  unfolding match_number
  gathers-matched begun = rw begins.mode (rw (begins.type, begins.mode) at first-passed.matched)
  gathers-matched (more {octets = octets} gathers o type unmarked same accepted) =
      matched-more octets (data_of o.octets) v begins.mode (gathers-matched gathers)

  -- where it left its own channel open, it did not close it
  open_unclosed : (channels_by (judge start js f ∷ js) (channel_of f.octets)).is_open ≡ true → closes f.octets ≡ false
  unfolding lookback meant
  open_unclosed opened =
      go (routes f.octets) (closes f.octets) (routed_by f.octets) (lookback js (channel_of f.octets))
      (rw (begins.accepted, eq-eqb (channel_of f.octets) (channel_of f.octets) refl) at opened)
    where
      go : (r l : Bool) (g h : Governing) → (cond ((r || l) && true) (cond (r && not l) g closed) h).is_open ≡ true → l ≡ false
      go true true g h e = sym e
      go true false g h e = refl
      go false true g h e = sym e
      go false false g h e = refl

  module _ (unclosed : closes f.octets ≡ false) where
    -- then a sequel is governed as the first fragment was
    pub gathers-governed : {ks : List Judged} {octets : List ℕ} → Gathers start js f ks octets → (m : List ℕ) → type_of m ≡ 0xC0
        → channel_of m ≡ channel_of f.octets → governed_by ks m ≡ v
    unfolding governs lookback
    gathers-governed gathers m type same =
        rw (type, same, gathers-channels gathers (channel_of f.octets))
        (rw (begins.accepted, eq-eqb (channel_of f.octets) (channel_of f.octets) refl, unclosed)
        (go (routes f.octets) (routed_by f.octets) (lookback js (channel_of f.octets))))
      where
        go : (r : Bool) (g h : Governing) → meant (cond ((r || false) && true) (cond (r && true) g closed) h) ≡ cond r (meant g) (meant h)
        go true g h = refl
        go false g h = refl

    -- and the octets so far are gathered
    gathers-octets : {ks : List Judged} {octets : List ℕ} → Gathers start js f ks octets → (gathering_by ks).octets ≡ octets
    unfolding gathering_by gathering_after
    gathers-octets begun = rw (begins.accepted, unclosed, begins.type, begins.mode)
    gathers-octets (more gathers o type unmarked same accepted) =
        rw (accepted, type, unmarked, ap (λ (g : Configuration). g.mode) (gathers-governed gathers o.octets type same) ∙ begins.mode)
        (ap (λ (l : List ℕ). l ++ data_of o.octets) (gathers-octets gathers))

  module _ {ks : List Judged} {octets : List ℕ} (gathers : Gathers start js f ks octets) (last whole : Offer) (ends : Ends start ks f last)
      (frame : SameFrame f last whole octets) where
    abbrev l : List ℕ
    l = last.octets

    abbrev m : List ℕ
    m = whole.octets

    abbrev k : Chunk
    k = chunk 2 (octets ++ data_of l)

    -- ---- the last fragment: it passed its own checks, so its channel is open, and its number is that of 20 to 23

    last-own : own_number l last.lent.assembly (standing_by start ks) ≡ 0
    last-own = own_of_taken l last.lent (standing_by start ks) ends.taken

    unclosed : closes f.octets ≡ false
    unfolding closed_number
    unclosed =
        let passed = (own-passed l last.lent.assembly (standing_by start ks) last-own).closed in
        let opened = not-false (channels_by ks (channel_of l)).is_open (refuse-zero _ 16 (lit≤ tt) (rw ends.type at passed)) in
        open_unclosed (rw (ends.channel, gathers-channels gathers (channel_of f.octets)) at opened)

    last-governed : governed_by ks l ≡ v
    last-governed = gathers-governed unclosed gathers l ends.type ends.channel

    last-chunk : whole_of l v (gathering_by ks) ≡ k
    unfolding whole_of
    last-chunk = rw (ends.type, ends.marked, begins.mode, gathers-octets unclosed gathers)

    last-number : (judge start ks last).number ≡ whole_number k v last.lent (running start js)
    last-number = number_of-whole l last.lent (standing_by start ks) last-own ∙ rw (last-governed, last-chunk, gathers-sums gathers)

    -- ---- the whole: its own checks find what those of the first fragment found, 24 to 26 pass it by, and its number is that of 20 to 23

    whole-governed : governed_by js m ≡ v
    whole-governed = routed-governs m f.octets frame.channel frame.routing frame.routed (channels_by js)

    whole-own : own_number m whole.lent.assembly (standing_by start js) ≡ 0
    unfolding in_order sequel_number room_number
    whole-own =
        let g = channels_by js in
        let route = routed-route m f.octets frame.channel frame.routing frame.routed ∙ first-passed.route in
        let holder = routed-holder m f.octets frame.channel frame.routing frame.routed g ∙ first-passed.holder in
        let shut = routed-closed m f.octets frame.channel frame.routing frame.routed g ∙ first-passed.closed in
        rw (frame.header, route, holder, shut, frame.type, frame.section, whole-governed)
        (rw (matched-more octets (data_of l) v begins.mode (gathers-matched gathers)))

    whole_chunk : whole_of m v (gathering_by js) ≡ k
    unfolding whole_of
    whole_chunk = rw (frame.type, frame.section)

    whole_number_lem : (judge start js whole).number ≡ whole_number k v last.lent (running start js)
    unfolding whole_number content_number
    whole_number_lem =
        number_of-whole m whole.lent (standing_by start js) whole-own ∙ rw (whole-governed, whole_chunk, begins.mode, frame.rows)

    -- ---- number, configuration and chunk are the same, and all else follows

    same_number : (judge start ks last).number ≡ (judge start js whole).number
    same_number = last-number ∙ sym whole_number_lem

    same_chunk : whole_of l v (gathering_by ks) ≡ whole_of m v (gathering_by js)
    same_chunk = last-chunk ∙ sym whole_chunk

    pub cut_as_whole : SameAsWhole start js ks last whole
    unfolding worked_out sums_after
    cut_as_whole =
        record {
          number = same_number;
          reply =
              rw (same_number, last-governed, whole-governed)
              (same_reply l m v (gathering_by ks) (gathering_by js) same_chunk (judge start js whole).number
              (ends.channel ∙ sym frame.channel));
          slices = λ rows levels a b.
              rw (same_number, last-governed, whole-governed)
              (same_slices l m v (gathering_by ks) (gathering_by js) same_chunk (judge start js whole).number rows levels a b);
          meters = rw (same_number, last-governed, whole-governed, same_chunk, gathers-sums gathers);
        }
