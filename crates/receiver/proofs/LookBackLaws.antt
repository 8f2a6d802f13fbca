-- Laws about the look-back rule: a record that agrees with it before a message agrees with it after the message. What is gathered of a frame
-- is read off the record and the assembly slice together, so there the slice lent with the message has a part. Sets: CountedLaws.antt.
use mathlib.Core.Path.{◌≡◌, refl, sym, ap, ◌∙◌, subst, fun_ext}
use Prim.Native.Nat.{ℕ}
use mathlib.Core.Bool.{Bool, true, false, true≢false, cond, not, ◌&&◌, ◌||◌}
use mathlib.Core.List.{List, [], ◌∷◌}
use lib.ListN.{take}
use lib.Dec.{eqb}
use Rattle.receiver.specs.Message.{channel_of, is_last, closes}
use Rattle.receiver.specs.Governing.{Configuration, meant}
use Rattle.receiver.specs.Slices.{Slices, lengths}
use Rattle.receiver.specs.Gathering.{Gathering, no_gathering, grown, whole_of}
use Rattle.receiver.specs.Meters.{Sums, plus, over_limit, NotAbove, added_by}
use Rattle.receiver.specs.Checks.{governs, number_of}
use Rattle.receiver.specs.Effects.{reply_of, slices_after, sums_after, takes, drops, decides, decided, governing_after, gathering_after}
use Rattle.receiver.specs.LookBack.{Offer, offer, Judged, lookback, channels_by, governed_by, gathering_by, worked_out, running, standing_by, judge, judged, starting_sums}
use Rattle.receiver.specs.Record.{channels_of, sums_of, gathered_in, gathering_of, standing_of, consistent}
use Rattle.receiver.specs.Contract.{Started, message_number, Answered}
use Rattle.receiver.specs.declared.Receiver.{Receiver}
use Rattle.receiver.specs.declared.Outcome.{Outcome}
use Rattle.receiver.proofs.CheckLaws.{plus-zero, plus_assoc, sums_after_within, sums_after-grows}

-- ---- one message

-- what a message adds, it adds to what was worked out before
pub sums_after-plus : (m : List ℕ) (n : ℕ) (v : Configuration) (w : Gathering) (s t : Sums)
    → sums_after m n v w (plus s t) ≡ plus s (sums_after m n v w t)
unfolding sums_after
sums_after-plus m n v w s t = go (eqb n 0)
  where
    go : (b : Bool)
        → cond b (plus (plus s t) (added_by (whole_of m v w) v)) (plus s t) ≡ plus s (cond b (plus t (added_by (whole_of m v w) v)) t)
    go true = plus_assoc s t (added_by (whole_of m v w) v)
    go false = refl

-- what looking back past one more message finds is what that message leaves
pub channels_by-next : (j : Judged) (js : List Judged) (c : ℕ)
    → governing_after j.octets j.number (channels_by js) c ≡ channels_by (j ∷ js) c
unfolding lookback governing_after
channels_by-next j js c = go (decides j.octets j.number && eqb c (channel_of j.octets))
  where
    go : (b : Bool) → cond b (meant (decided j.octets j.number)) (channels_by js c) ≡ meant (cond b (decided j.octets j.number) (lookback js c))
    go true = refl
    go false = refl

-- ---- the rule alone

-- from readings within their limits no meter passes its limit
pub judged_within : (start : Sums) → over_limit start ≡ false → (os : List Offer) → over_limit (running start (judged start os)) ≡ false
unfolding judged worked_out
judged_within start h [] = ap over_limit (plus-zero start) ∙ h
judged_within start h (o ∷ os) =
    let js = judged start os in
    let n = (judge start js o).number in
    ap over_limit (sym (sums_after-plus o.octets n (governed_by js o.octets) (gathering_by js) start (worked_out js)))
    ∙ sums_after_within o.octets o.lent (standing_by start js) (judged_within start h os)

-- where no frame is gathered, nothing of an earlier one is left
gathering_by-off : (js : List Judged) → (gathering_by js).is_on ≡ false → gathering_by js ≡ no_gathering
unfolding gathering_by gathering_after
gathering_by-off [] off = refl
gathering_by-off (j ∷ js) off =
    by_cases (takes j.octets j.number (governed_by js j.octets) && not (is_last j.octets || closes j.octets))
    (drops j.octets j.number (governed_by js j.octets) (gathering_by js))
    off (gathering_by-off js)
  where
    by_cases : (a b : Bool) → (cond a (grown j.octets (gathering_by js)) (cond b no_gathering (gathering_by js))).is_on ≡ false
        → ((gathering_by js).is_on ≡ false → gathering_by js ≡ no_gathering)
        → cond a (grown j.octets (gathering_by js)) (cond b no_gathering (gathering_by js)) ≡ no_gathering
    by_cases true b h before = absurd (true≢false h)
    by_cases false true h before = refl
    by_cases false false h before = before h

-- ---- agreement

-- The record agrees with the rule on the judged messages, from the starting readings s, with the assembly slice a as the last call left it: its
-- meters, what governs each channel, what is gathered, and it is consistent, so that check 1 does not apply to the next message.
pub record Agrees (s : Sums) (js : List Judged) (r : Receiver) (a : List ℕ) : Type 0 where
  pub meters : sums_of r ≡ running s js
  pub channels : (c : ℕ) → channels_of r c ≡ channels_by js c
  pub gathering : gathering_of r a ≡ gathering_by js
  pub sound : consistent r ≡ true

-- before the first call there is no slice, and nothing is gathered
pub started-agrees : (s : Sums) (o : Outcome) → Started s o → Agrees (starting_sums s) [] o.receiver []
unfolding worked_out lookback gathering_by
started-agrees s o started =
    record {
      meters = started.meters ∙ sym (plus-zero (starting_sums s));
      channels = started.channels;
      gathering = started.gathering [];
      sound = started.sound;
    }

module _ (s : Sums) (js : List Judged) (r : Receiver) (a : List ℕ) (agrees : Agrees s js r a) where
  same_channels : channels_of r ≡ channels_by js
  same_channels = fun_ext agrees.channels

  -- a slice that is the one left where a frame is gathered shows the rule's gathering: where none is, no octet of the slice counts
  gathering-agrees : (a₁ : List ℕ) → ((gathering_by js).is_on ≡ true → a₁ ≡ a) → gathering_of r a₁ ≡ gathering_by js
  gathering-agrees a₁ same = go (gathering_by js).is_on refl
    where
      go : (b : Bool) → (gathering_by js).is_on ≡ b → gathering_of r a₁ ≡ gathering_by js
      go true on = ap (gathering_of r) (same on) ∙ agrees.gathering
      go false off =
          let none : (gathered_in r.gathered).count ≡ 0 =
          ap (λ (w : Gathering). w.count) (agrees.gathering ∙ gathering_by-off js off) in
          let taken : (l : List ℕ) → take (gathered_in r.gathered).count l ≡ [] = λ l. ap (λ (k : ℕ). take k l) none in
          ap (with_octets (gathering_of r a)) (taken a₁ ∙ sym (taken a)) ∙ agrees.gathering
        where
          with_octets : Gathering → List ℕ → Gathering
          with_octets w octets =
              record {
                is_on = w.is_on;
                channel = w.channel;
                count = w.count;
                octets = octets;
                timestamp = w.timestamp;
                sequel = w.sequel;
              }

  -- so what stands before the next message is the rule's
  pub standing-agrees : (a₁ : List ℕ) → ((gathering_by js).is_on ≡ true → a₁ ≡ a) → standing_of r a₁ ≡ standing_by s js
  standing-agrees a₁ same i =
      record {
        channels = same_channels i;
        gathering = gathering-agrees a₁ same i;
        sums = agrees.meters i;
      }

  module _ (m : List ℕ) (s₀ : Slices) (same : (gathering_by js).is_on ≡ true → s₀.assembly ≡ a) where
    -- the number of a message is the rule's
    number-agrees : message_number r m s₀ ≡ number_of m (lengths s₀) (standing_by s js)
    number-agrees = rw agrees.sound (ap (number_of m (lengths s₀)) (standing-agrees s₀.assembly same))

    module _ (o : Outcome) (s₁ : Slices) (answered : Answered r m s₀ o s₁) where
      -- the rule's number
      abbrev ruled : ℕ
      ruled = number_of m (lengths s₀) (standing_by s js)

      -- and so are its whole reply and the slices as they are left
      pub reply-agrees : o.reply ≡ reply_of m ruled (governed_by js m) (gathering_by js)
      reply-agrees =
          answered.reply
          ∙ (λ i. reply_of m (number-agrees i) (governs m (same_channels i)) (gathering-agrees s₀.assembly same i))

      pub slices-agree : s₁ ≡ slices_after m ruled (governed_by js m) (gathering_by js) s₀
      slices-agree =
          answered.slices
          ∙ (λ i. slices_after m (number-agrees i) (governs m (same_channels i)) (gathering-agrees s₀.assembly same i) s₀)

      pub answered-agrees : Agrees s (judge s js (offer m (lengths s₀)) ∷ js) o.receiver s₁.assembly
      unfolding worked_out gathering_by
      answered-agrees =
          record {
            meters =
                answered.meters
                ∙ (λ i. sums_after m (number-agrees i) (governs m (same_channels i)) (gathering-agrees s₀.assembly same i) (agrees.meters i))
                ∙ sums_after-plus m ruled (governed_by js m) (gathering_by js) s (worked_out js);
            channels = λ c.
                answered.channels c
                ∙ (λ i. governing_after m (number-agrees i) (same_channels i) c)
                ∙ channels_by-next (judge s js (offer m (lengths s₀))) js c;
            gathering =
                answered.gathering
                ∙ (λ i. gathering_after m (number-agrees i) (governs m (same_channels i)) (gathering-agrees s₀.assembly same i));
            sound = answered.sound ∙ agrees.sound;
          }

-- no meter falls over a message, whatever its number and whatever slices are lent
pub answered-grows : (r : Receiver) (m : List ℕ) (s₀ : Slices) (o : Outcome) (s₁ : Slices)
    → Answered r m s₀ o s₁ → NotAbove (sums_of r) (sums_of o.receiver)
answered-grows r m s₀ o s₁ answered =
    subst (NotAbove (sums_of r)) (sym answered.meters)
    (sums_after-grows m _ (governs m (channels_of r)) (gathering_of r s₀.assembly) (sums_of r))
