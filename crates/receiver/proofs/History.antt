-- The one claim over every meter history (document 01, "Meters and the look-back rule"; document 02, C-12 and C-14; demand 3, with demands 1
-- and 2 over a history): take any list of calls, messages and sets mixed, whatever rows and levels are lent with each message, made in order
-- on a receiver newly started, each by a Rattle call, by a C call or by a call in place. Where the assembly slice was lent unaltered as C-12
-- says, the three meters equal the starting readings plus what the look-back rule works out from the list, the readings and the lent lengths
-- alone, where an accepted set counts as its messages in order and a refused one as no message; every message and every set gets the rule's
-- whole reply; the reply to a next message that is lent the slice so too, the slices as that leaves them, and the reply to a next set are
-- the rule's. Whatever the host does to that slice, at every moment of the run, after each first part of the list, the receiver that this
-- very run had then is consistent, so that check 1 never applies; none of its meters has passed its limit, and none is lower at the run's
-- end (nor at a moment between, for the run up to then is a run too).
--     Ran                         a run: start, then each call on the receiver that the one before handed back
--     Unaltered                   C-12's condition on the calls of a run; a run of a list without first fragments always meets it
--     Before                      that one run is a first part of another
--     every_run_within            what holds of every run, as the record Within
--     demand_3                    the claim, as the record Demand3, of every unaltered run
--     demand_3_unsplit            the same of every run of a list without first fragments
-- What a call is stands in Calls.antt, and that every list has a run in Runs.antt.
use mathlib.Core.Path.{◌≡◌, refl, ap, ap₂, ◌∙◌, sym, subst}
use Prim.Native.Nat.{ℕ}
use mathlib.Core.Bool.{true, false, true≢false}
use mathlib.Core.List.{List, [], ◌∷◌, ◌++◌, reverse, reverse_aux, reverse-append, reverse-reverse}
use denote.Ref.{Bor}
use Rattle.receiver.specs.Message.{type_of}
use Rattle.receiver.specs.Slices.{Slices, lengths}
use Rattle.receiver.specs.Meters.{Sums, over_limit, NotAbove}
use Rattle.receiver.specs.Record.{sums_of, consistent}
use Rattle.receiver.specs.Contract.{sums_in}
use Rattle.receiver.specs.LookBack.{Offer, offer, Judged, gathering_by, standing_by, judged, starting_sums, Called, message, set, offers_by, judged_by, Answer, answers_by, history_offers, history_answers, history_judged, history_sums, next_reply, next_slices, next_set_reply}
use Rattle.receiver.specs.declared.Receiver.{Receiver}
use Rattle.receiver.specs.declared.Outcome.{Outcome}
use Rattle.receiver.specs.declared.SetOutcome.{SetOutcome}
use Rattle.receiver.specs.declared.Readings.{Readings}
use Rattle.receiver.proofs.CheckLaws.{NotAbove_refl, NotAbove_trans}
use Rattle.receiver.proofs.JudgeLaws.{consistent-limit}
use Rattle.receiver.proofs.AssemblyLaws.{gathering-unbegun}
use Rattle.receiver.proofs.LookBackLaws.{Agrees, started-agrees, reply-agrees, slices-agree}
use Rattle.receiver.proofs.CountedLaws.{set-unbegun, set_reply-agrees}
use Rattle.receiver.proofs.Calls.{StartCall, SliceRefs, held, MessageCall, SetCall, ReadingsCall, start-learnt, message-learnt, set-learnt, readings-learnt, Step, Lends, left_after}
use Rattle.receiver.proofs.StepLaws.{step-sound, step-grows, step-agrees, step-reply}

-- ---- a run, latest call first: the calls, the replies, and the receiver that was handed back last

pub data Ran (start : Sums) : List Called → List Answer → Receiver → Type 0 where
  started : (o : Outcome) → StartCall start o → Ran start [] [] o.receiver
  called : {calls : List Called} {replies : List Answer} {r : Receiver} → Ran start calls replies r
      → {c : Called} {reply : Answer} {r₁ : Receiver} → Step r c reply r₁ → Ran start (c ∷ calls) (reply ∷ replies) r₁

-- ---- the condition: C-12, "Where the host lends the assembly slice unaltered and at one length for as long as a frame is gathered,
-- demand 3 holds with split frames too"

-- the assembly slice as the last message of a run left it; before the first there is none
unfoldable pub left_by : {start : Sums} {calls : List Called} {replies : List Answer} {r : Receiver} → Ran start calls replies r → List ℕ
left_by (started o call) = []
left_by (called ran step) = left_after step (left_by ran)

-- a message after the run is lent that slice as it was left, if a frame is gathered then, as the rule tells from the list
abbrev pub LentAsLeft : {start : Sums} {calls : List Called} {replies : List Answer} {r : Receiver}
    → Ran start calls replies r → SliceRefs → Type 0
LentAsLeft {start} {calls} ran lent =
    (gathering_by (judged_by (starting_sums start) calls)).is_on ≡ true → lent.assembly.now ≡ left_by ran

-- every message of the run was; a set is lent none, and nothing is asked of it
unfoldable pub Unaltered : {start : Sums} {calls : List Called} {replies : List Answer} {r : Receiver} → Ran start calls replies r → Type 0
Unaltered (started o call) = Unit {0}
Unaltered {start} (called {calls = calls} ran step) =
    Unaltered ran × ((gathering_by (judged_by (starting_sums start) calls)).is_on ≡ true → Lends (left_by ran) step)

-- a call that is no first fragment of a frame; of a set nothing is asked, for the messages of an accepted one are of type 0x00
unfoldable pub BeginsNone : Called → Type 0
BeginsNone (message o) = type_of o.octets ≡ 3 → ⊥
BeginsNone (set octets) = Unit {0}

-- no call of the list is one
unfoldable pub NoneBegins : List Called → Type 0
NoneBegins [] = Unit {0}
NoneBegins (c ∷ calls) = BeginsNone c × NoneBegins calls

none-gathered : (s : Sums) (calls : List Called) → NoneBegins calls → (gathering_by (judged_by s calls)).is_on ≡ false
unfolding BeginsNone NoneBegins offers_by judged gathering_by
none-gathered s [] none = refl
none-gathered s (message o ∷ calls) none =
    gathering-unbegun o.octets o.lent (standing_by s (judged_by s calls)) none.0 (none-gathered s calls none.1)
none-gathered s (set octets ∷ calls) none = set-unbegun s octets (offers_by s calls) (none-gathered s calls none.1)

-- then nothing is ever gathered, and the host may do with the slice what it likes
pub no_fragments_unaltered : {start : Sums} {calls : List Called} {replies : List Answer} {r : Receiver} (ran : Ran start calls replies r)
    → NoneBegins calls → Unaltered ran
unfolding Unaltered NoneBegins
no_fragments_unaltered (started o call) none = tt
no_fragments_unaltered {start} (called {calls = calls} ran step) none =
    (no_fragments_unaltered ran none.1, λ on. absurd (true≢false (sym on ∙ none-gathered (starting_sums start) calls none.1)))

-- in whichever order the list is read
none-reversed : (calls done : List Called) → NoneBegins calls → NoneBegins done → NoneBegins (reverse_aux calls done)
unfolding NoneBegins
none-reversed [] done none before = before
none-reversed (c ∷ calls) done none before = none-reversed calls (c ∷ done) none.1 (none.0, before)

-- ---- along a run

-- the record is consistent, whatever slices were lent
sound : {start : Sums} {calls : List Called} {replies : List Answer} {r : Receiver} → Ran start calls replies r → consistent r ≡ true
sound (started o call) = (start-learnt call).sound
sound (called ran step) = step-sound step ∙ sound ran

-- where the assembly slice was lent unaltered it agrees with the rule
agrees : {start : Sums} {calls : List Called} {replies : List Answer} {r : Receiver} (ran : Ran start calls replies r) → Unaltered ran
    → Agrees (starting_sums start) (judged_by (starting_sums start) calls) r (left_by ran)
unfolding judged offers_by left_by Unaltered
agrees {start} (started o call) unaltered = started-agrees start o (start-learnt call)
agrees {start} (called {calls = calls} {r = r} ran step) unaltered =
    step-agrees (starting_sums start) calls r (left_by ran) (agrees ran unaltered.0) step unaltered.1

-- and so does every reply
answers_agree : {start : Sums} {calls : List Called} {replies : List Answer} {r : Receiver} (ran : Ran start calls replies r)
    → Unaltered ran → replies ≡ answers_by (starting_sums start) calls
unfolding answers_by Unaltered
answers_agree (started o call) unaltered = refl
answers_agree {start} (called {calls = calls} {r = r} ran step) unaltered =
    ap₂ (λ (reply : Answer) (behind : List Answer). reply ∷ behind)
    (step-reply (starting_sums start) calls r (left_by ran) (agrees ran unaltered.0) step unaltered.1)
    (answers_agree ran unaltered.0)

-- ---- the earlier moments of a run

-- ran₀ is a first part of a run: that run is ran₀ itself, or ran₀ is a first part of what it was before its last call
pub data Before {start : Sums} {early : List Called} {before : List Answer} {r₀ : Receiver} (ran₀ : Ran start early before r₀)
    : (calls : List Called) (replies : List Answer) (r : Receiver) → Ran start calls replies r → Type 0 where
  itself : Before ran₀ early before r₀ ran₀
  then : {calls : List Called} {replies : List Answer} {r : Receiver} {ran : Ran start calls replies r} → Before ran₀ calls replies r ran
      → {c : Called} {reply : Answer} {r₁ : Receiver} (step : Step r c reply r₁) → Before ran₀ (c ∷ calls) (reply ∷ replies) r₁ (called ran step)

module _ {start : Sums} {early : List Called} {before : List Answer} {r₀ : Receiver} {ran₀ : Ran start early before r₀} where
  -- no meter has fallen since
  since_grows : {calls : List Called} {replies : List Answer} {r : Receiver} {ran : Ran start calls replies r} → Before ran₀ calls replies r ran
      → NotAbove (sums_of r₀) (sums_of r)
  since_grows itself = NotAbove_refl (sums_of r₀)
  since_grows (then {r = r} part {r₁ = r₁} step) =
      NotAbove_trans (sums_of r₀) (sums_of r) (sums_of r₁) (since_grows part) (step-grows step)

  -- if the slice was lent unaltered throughout, it was up to then
  unaltered_before : {calls : List Called} {replies : List Answer} {r : Receiver} {ran : Ran start calls replies r} → Before ran₀ calls replies r ran
      → Unaltered ran → Unaltered ran₀
  unfolding Unaltered
  unaltered_before itself unaltered = unaltered
  unaltered_before (then part step) unaltered = unaltered_before part unaltered.0

-- the run as it was when only the early calls had been made
abbrev PartOver : {start : Sums} {calls : List Called} {replies : List Answer} {r : Receiver} → List Called → Ran start calls replies r → Type 0
PartOver {start} {calls} {replies} {r} early ran =
    (before : List Answer) × (r₀ : Receiver) × (ran₀ : Ran start early before r₀) × Before ran₀ calls replies r ran

run_before : {start : Sums} {replies : List Answer} {r : Receiver} (late early : List Called) (ran : Ran start (late ++ early) replies r)
    → PartOver early ran
run_before [] early ran = (_, _, ran, itself)
run_before (c ∷ late) early (called ran step) = let p = run_before late early ran in (p.0, p.1, p.2, then p.3 step)

-- ---- what holds of every run, over the list in order

-- a run of the calls in order, with the replies in order
abbrev pub RanInOrder : Sums → List Called → List Answer → Receiver → Type 0
RanInOrder start calls replies r = Ran start (reverse calls) (reverse replies) r

-- the moment of the whole run after the early calls: the run up to then, which is a first part of the whole one, and the receiver that
-- it had come to. That was consistent; none of its meters had passed its limit, and none has fallen since.
pub record Moment {start : Sums} {calls : List Called} {replies : List Answer} {r : Receiver} (whole : Ran start calls replies r) (early : List Called) : Type 0 where
  pub receiver : Receiver
  pub before : List Answer
  pub ran : RanInOrder start early before receiver
  pub part : Before ran calls replies r whole
  pub check1 : consistent receiver ≡ true
  pub within : over_limit (sums_of receiver) ≡ false
  pub grows : NotAbove (sums_of receiver) (sums_of r)

-- `check1`: the record is consistent, so check 1 does not apply to what is offered to it next. `within`: no meter has passed its limit.
-- `earlier`: so it was at each moment of the run, since when no meter has fallen.
pub record Within (start : Sums) (calls : List Called) (replies : List Answer) (r : Receiver) (ran : RanInOrder start calls replies r) : Type 0 where
  pub check1 : consistent r ≡ true
  pub within : over_limit (sums_of r) ≡ false
  pub earlier : (early late : List Called) → early ++ late ≡ calls → Moment ran early

-- ---- the claim

-- such a moment of a run with the slice unaltered: it was so up to then, and the meters were what the rule works out
pub record Earlier {start : Sums} {calls : List Called} {replies : List Answer} {r : Receiver} (whole : Ran start calls replies r) (early : List Called) : Type 0 where
  pub moment : Moment whole early
  pub unaltered : Unaltered moment.ran
  pub meters : sums_of moment.receiver ≡ history_sums start (history_offers start early)

-- what the next message gets, after the messages that count: the rule's reply, and the slices as the rule says that they are left
pub record NextByRule (start : Sums) (offers : List Offer) (m : List ℕ) (s₀ : Slices) (o : Outcome) (s₁ : Slices) : Type 0 where
  pub reply : o.reply ≡ next_reply start offers (offer m (lengths s₀))
  pub slices : s₁ ≡ next_slices start offers m s₀

-- The claim. `meters`: they equal the starting readings plus what the rule works out. `shown`: and so does what the readings call gives.
-- `earlier`: at each moment of the run too, where `demand_3` holds of the run up to then; none had passed its limit, and none has fallen
-- since. `answers`: every message and every set got the rule's reply. `next`: whatever message is offered next, lent the assembly slice as
-- it was left if a frame is gathered, its reply and the slices after it are the rule's; nothing of the record is named. `next_set`: so is
-- the reply to whatever set is offered next. `check1`: the record is consistent, so check 1 does not apply to what is offered to it next.
pub record Demand3 (start : Sums) (calls : List Called) (replies : List Answer) (r : Receiver) (ran : RanInOrder start calls replies r) : Type 0 where
  pub meters : sums_of r ≡ history_sums start (history_offers start calls)
  pub shown : (q : Readings) → ReadingsCall r q → sums_in q ≡ history_sums start (history_offers start calls)
  pub earlier : (early late : List Called) → early ++ late ≡ calls → Earlier ran early
  pub answers : replies ≡ history_answers start calls
  pub next : (octets : Bor (List ℕ)) (lent : SliceRefs) (o : Outcome) (left : SliceRefs) → MessageCall r octets lent o left
      → LentAsLeft ran lent → NextByRule start (history_offers start calls) octets.now (held lent) o (held left)
  pub next_set : (octets : Bor (List ℕ)) (o : SetOutcome) → SetCall r octets o
      → o.reply ≡ next_set_reply start (history_offers start calls) octets.now
  pub check1 : consistent r ≡ true

-- the messages that a list counts as, judged in order, are those that the run's agreement speaks of
judged-in_order : (start : Sums) (calls : List Called)
    → judged_by (starting_sums start) (reverse calls) ≡ history_judged start (history_offers start calls)
judged-in_order start calls = sym (ap (judged (starting_sums start)) (reverse-reverse (offers_by (starting_sums start) (reverse calls))))

-- the agreement with the rule in order
agrees-in_order : (start : Sums) (calls : List Called) (replies : List Answer) (r : Receiver) (ran : RanInOrder start calls replies r) → Unaltered ran
    → Agrees (starting_sums start) (history_judged start (history_offers start calls)) r (left_by ran)
agrees-in_order start calls replies r ran unaltered =
    subst (λ (js : List Judged). Agrees (starting_sums start) js r (left_by ran)) (judged-in_order start calls) (agrees ran unaltered)

module _ (start : Sums) (calls : List Called) (replies : List Answer) (r : Receiver) (ran : RanInOrder start calls replies r) where
  -- each first part of the list has its moment
  moment_before : (early late : List Called) → early ++ late ≡ calls → Moment ran early
  moment_before early late e =
      let p =
      subst (λ (l : List Called). (ran : Ran start l (reverse replies) r) → PartOver (reverse early) ran)
      (sym (reverse-append early late) ∙ ap reverse e) (run_before (reverse late) (reverse early)) ran in
      let q : (ran₀ : RanInOrder start early (reverse p.0) p.1) × Before ran₀ (reverse calls) (reverse replies) r ran =
      subst (λ (l : List Answer). (ran₀ : Ran start (reverse early) l p.1) × Before ran₀ (reverse calls) (reverse replies) r ran)
      (sym (reverse-reverse p.0)) (p.2, p.3) in
      record {
        receiver = p.1;
        before = reverse p.0;
        ran = q.0;
        part = q.1;
        check1 = sound p.2;
        within = consistent-limit p.1 (sound p.2);
        grows = since_grows p.3;
      }

  pub every_run_within : Within start calls replies r ran
  every_run_within =
      record {
        check1 = sound ran;
        within = consistent-limit r (sound ran);
        earlier = moment_before;
      }

  pub demand_3 : Unaltered ran → Demand3 start calls replies r ran
  demand_3 unaltered =
      let s = starting_sums start in
      let offers = history_offers start calls in
      let js = history_judged start offers in
      let ruled = agrees-in_order start calls replies r ran unaltered in
      record {
        meters = ruled.meters;
        shown = λ q call. ap sums_in (readings-learnt call) ∙ ruled.meters;
        earlier = λ early late e.
            let q = moment_before early late e in
            let still = unaltered_before q.part unaltered in
            record {
              moment = q;
              unaltered = still;
              meters = (agrees-in_order start early q.before q.receiver q.ran still).meters;
            };
        answers = sym (reverse-reverse replies) ∙ ap reverse (answers_agree ran unaltered);
        next = λ octets lent o left call same.
            let as_left : (gathering_by js).is_on ≡ true → lent.assembly.now ≡ left_by ran =
            λ on. same (ap (λ (l : List Judged). (gathering_by l).is_on) (judged-in_order start calls) ∙ on) in
            record {
              reply = reply-agrees s js r (left_by ran) ruled octets.now (held lent) as_left o (held left) (message-learnt call);
              slices = slices-agree s js r (left_by ran) ruled octets.now (held lent) as_left o (held left) (message-learnt call);
            };
        next_set = λ octets o call. set_reply-agrees s (reverse offers) r (left_by ran) ruled octets.now o (set-learnt call);
        check1 = sound ran;
      }

  -- a list without first fragments needs no condition
  pub demand_3_unsplit : NoneBegins calls → Demand3 start calls replies r ran
  unfolding NoneBegins
  demand_3_unsplit none = demand_3 (no_fragments_unaltered ran (none-reversed calls [] none tt))
