-- Laws about one call, a message or a set: what it keeps of the record, and that a record that agrees with the look-back rule before it agrees
-- with it after it.
use mathlib.Core.Path.{◌≡◌, ap}
use mathlib.Core.Bool.{true}
use mathlib.Core.List.{List, ◌∷◌}
use Prim.Native.Nat.{ℕ}
use Rattle.receiver.specs.Meters.{Sums, NotAbove}
use Rattle.receiver.specs.Record.{sums_of, consistent}
use Rattle.receiver.specs.LookBack.{gathering_by, judged, Called, offers_by, judged_by, Answer, answer_by}
use Rattle.receiver.specs.declared.Receiver.{Receiver}
use Rattle.receiver.proofs.LookBackLaws.{Agrees, reply-agrees, answered-agrees, answered-grows}
use Rattle.receiver.proofs.CountedLaws.{set_reply-agrees, patched_agrees, patched_grows}
use Rattle.receiver.proofs.Calls.{held, message-learnt, set-learnt, Step, message, set, Lends, left_after}

pub step-sound : {r : Receiver} {c : Called} {reply : Answer} {r₁ : Receiver} → Step r c reply r₁ → consistent r₁ ≡ consistent r
step-sound (message octets lent o left call) = (message-learnt call).sound
step-sound (set octets o call) = (set-learnt call).sound

-- no meter falls over it
pub step-grows : {r : Receiver} {c : Called} {reply : Answer} {r₁ : Receiver} → Step r c reply r₁ → NotAbove (sums_of r) (sums_of r₁)
step-grows {r} (message octets lent o left call) = answered-grows r octets.now (held lent) o (held left) (message-learnt call)
step-grows {r} (set octets o call) = patched_grows r octets.now o (set-learnt call)

-- after calls with which the record agrees, lent the assembly slice as they left it if a frame is gathered then, its reply is the rule's, and
-- the next record agrees
module _ (s : Sums) (calls : List Called) (r : Receiver) (a : List ℕ) (agrees : Agrees s (judged_by s calls) r a) where
  pub step-agrees : {c : Called} {reply : Answer} {r₁ : Receiver} (step : Step r c reply r₁)
      → ((gathering_by (judged_by s calls)).is_on ≡ true → Lends a step) → Agrees s (judged_by s (c ∷ calls)) r₁ (left_after step a)
  unfolding Lends left_after offers_by judged
  step-agrees (message octets lent o left call) same =
      answered-agrees s (judged_by s calls) r a agrees octets.now (held lent) same o (held left) (message-learnt call)
  step-agrees (set octets o call) same = patched_agrees s (offers_by s calls) r a agrees octets.now o (set-learnt call)

  pub step-reply : {c : Called} {reply : Answer} {r₁ : Receiver} (step : Step r c reply r₁)
      → ((gathering_by (judged_by s calls)).is_on ≡ true → Lends a step) → reply ≡ answer_by s (judged_by s calls) c
  unfolding Lends answer_by
  step-reply (message octets lent o left call) same =
      ap Answer.message (reply-agrees s (judged_by s calls) r a agrees octets.now (held lent) same o (held left) (message-learnt call))
  step-reply (set octets o call) same = ap Answer.set (set_reply-agrees s (offers_by s calls) r a agrees octets.now o (set-learnt call))
