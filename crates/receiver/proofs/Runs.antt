-- Demand 3 speaks of every list: each list of calls, messages with their lent slices and sets mixed, has a run, by Rattle calls, C calls and
-- C calls in place as one likes, and one with any assembly slice that is lent on from message to message, so that the claim of History.antt
-- is not empty; `demand_3_whole` joins this with all that is claimed there. That each call has an answer stands in Answers.antt.
use mathlib.Core.Path.{◌≡◌, refl, sym, ◌∙◌, subst, subst₂}
use Prim.Native.Nat.{ℕ, ◌<◌}
use mathlib.Core.Bool.{Bool, true, false, true≢false, false≢true}
use mathlib.Core.List.{List, [], ◌∷◌, map, reverse, reverse_aux, reverse-reverse}
use lib.ListN.{length, get_or}
use borrow.Author.Tests.{eq-eqb}
use denote.Ref.{Bor, MutBor}
use Rattle.receiver.specs.Slices.{Slices, slices, lent, lengths}
use Rattle.receiver.specs.Meters.{Sums}
use Rattle.receiver.specs.Effects.{bare_reply}
use Rattle.receiver.specs.Record.{record_in, record_size}
use Rattle.receiver.specs.LookBack.{offer, gathering_by, judged, starting_sums, Called, offers_by, judged_by, Answer}
use Rattle.receiver.specs.Contract.{outcome, start_number, Answered, set_outcome, Patched}
use Rattle.receiver.specs.Steps.{fresh_channels, fresh}
use Rattle.receiver.specs.declared.Receiver.{Receiver}
use Rattle.receiver.specs.declared.Outcome.{Outcome}
use Rattle.receiver.specs.declared.SetOutcome.{SetOutcome}
use Rattle.receiver.proofs.FreshLaws.{length-fresh, started-fresh}
use Rattle.receiver.proofs.SizedLaws.{Sized}
use Rattle.receiver.proofs.AssemblyLaws.{length-assembly}
use Rattle.receiver.proofs.CountedLaws.{set-unbegun}
use Rattle.receiver.proofs.Answers.{answer, set_answer_lem}
use Rattle.receiver.proofs.Calls.{StartCall, SliceRefs, held, RecordRefs, MessageCall, SetCall, Step, Lends, left_after}
use Rattle.receiver.proofs.History.{Ran, started, called, RanInOrder, left_by, Unaltered, NoneBegins, Within, every_run_within, Demand3, demand_3, demand_3_unsplit}

-- ---- the calls of a list

-- how a call is made: in Rattle, from C, or from C on a record that the host lends
pub data Way : Type 0 where
  in_rattle : Way
  from_c : Way
  in_place : Way

-- a message with the slices lent for it, or a set, and how it is offered
pub data Call : Type 0 where
  message : (octets : List ℕ) → ((k : ℕ) → get_or octets k 0 < 256) → Slices → Way → Call
  set : (octets : List ℕ) → ((k : ℕ) → get_or octets k 0 < 256) → Way → Call

-- as the rule is given it
abbrev pub called_of : Call → Called
called_of (message octets below s way) = Called.message (offer octets (lengths s))
called_of (set octets below way) = Called.set octets

-- and where a message is lent an assembly slice of n octets
abbrev pub called_at : ℕ → Call → Called
called_at n (message octets below s way) = Called.message (offer octets (lent (length s.rows) (length s.levels) n))
called_at n (set octets below way) = Called.set octets

-- ---- each is made

-- a reference to such a list: any place and any name serve
ref_to : {X : Type 0} → X → Bor X
ref_to x = record { ref_ptr = (0, 0); now = x }

mut_to : {X : Type 0} → X → MutBor X
mut_to x = record { ref_ptr = (0, 0); ghost_name = 0; now = x }

refs_to : Slices → SliceRefs
refs_to s = record { rows = mut_to s.rows; levels = mut_to s.levels; assembly = mut_to s.assembly }

record_to : Receiver → RecordRefs
record_to r = record { channels = mut_to r.channels; meters = mut_to r.meters; gathered = mut_to r.gathered }

sized_fresh : (s : Sums) → Sized (fresh s)
sized_fresh s = record { channels = length-fresh; meters = refl; gathered = refl }

start-outcome : Sums → Outcome
start-outcome s = outcome (fresh (starting_sums s)) (bare_reply (start_number s))

start-call : (way : Way) (s : Sums) → StartCall s (start-outcome s)
unfolding start-outcome mut_to record_to
start-call in_rattle s = StartCall.rattle tt (started-fresh s)
start-call from_c s = StartCall.c tt (started-fresh s)
start-call in_place s =
    let good = eq-eqb (length fresh_channels) record_size length-fresh in
    StartCall.in_place ([], ([], ([], tt))) (record_to (fresh s)) (record_to (fresh (starting_sums s))) (rw good)
    (record { started = λ e. started-fresh s; refused = λ e. absurd (false≢true (sym e ∙ rw good)) })
    refl

message-call : (way : Way) {r : Receiver} {octets : Bor (List ℕ)} {lent : SliceRefs} {o : Outcome} {left : SliceRefs}
    → Answered r octets.now (held lent) o (held left) → MessageCall r octets lent o left
unfolding mut_to record_to
message-call in_rattle meets = MessageCall.rattle ([], ([], ([], ([], tt)))) meets
message-call from_c meets = MessageCall.c ([], ([], ([], ([], tt)))) meets
message-call in_place {r} {octets} {lent} {o} meets =
    MessageCall.in_place ([], ([], ([], ([], ([], ([], ([], tt))))))) (record_to r) (record_to o.receiver) refl meets refl

-- a set in place leaves the meters that were lent
set-call : (way : Way) {r : Receiver} {octets : Bor (List ℕ)} {o : SetOutcome} → o.receiver.meters ≡ r.meters
    → Patched r octets.now o → SetCall r octets o
unfolding mut_to record_to
set-call in_rattle same meets = SetCall.rattle ([], tt) meets
set-call from_c same meets = SetCall.c ([], tt) meets
set-call in_place {r} {octets} {o} same meets =
    SetCall.in_place ([], ([], ([], ([], tt)))) (record_to r) (record_to o.receiver) refl same
    (subst (λ (meters : List ℕ). Patched r octets.now (set_outcome (record_in o.receiver.channels meters o.receiver.gathered) o.reply)) same meets)
    refl

-- the step that the next call of a list makes, and the next receiver's sizes
record Made (r : Receiver) (c : Called) : Type 0 where
  reply : Answer
  next : Receiver
  step : Step r c reply next
  sized : Sized next

make : (r : Receiver) → Sized r → (c : Call) → Made r (called_of c)
unfolding ref_to mut_to refs_to
make r z (message octets below s way) =
    let given = answer r z octets below s in
    record {
      reply = Answer.message given.outcome.reply;
      next = given.outcome.receiver;
      step = Step.message (ref_to octets) (refs_to s) given.outcome (refs_to given.left) (message-call way given.meets);
      sized = given.sized;
    }
make r z (set octets below way) =
    let given = set_answer_lem r z octets below in
    record {
      reply = Answer.set given.outcome.reply;
      next = given.outcome.receiver;
      step = Step.set (ref_to octets) given.outcome (set-call way given.meters given.meets);
      sized = given.sized;
    }

-- ---- every list has a run

pub every_list_runs : (start : Sums) (way : Way) (calls : List Call)
    → (replies : List Answer) × (r : Receiver) × Ran start (map called_of calls) replies r × Sized r
unfolding start-outcome
every_list_runs start way [] =
    ([], fresh (starting_sums start), Ran.started (start-outcome start) (start-call way start), sized_fresh (starting_sums start))
every_list_runs start way (c ∷ calls) =
    let run = every_list_runs start way calls in
    let made = make run.1 run.3 c in (made.reply ∷ run.0, made.next, Ran.called run.2 made.step, made.sized)

-- ---- and one in which one assembly slice is lent on from message to message

-- the assembly slice that the next message of a run is lent then: as the last message left it, and a before the first
unfoldable pub lent_on : List ℕ → {start : Sums} {calls : List Called} {replies : List Answer} {r : Receiver}
    → Ran start calls replies r → List ℕ
lent_on a (started o call) = a
lent_on a (called ran step) = left_after step (lent_on a ran)

-- every message of the run was lent that
unfoldable pub OneSlice : List ℕ → {start : Sums} {calls : List Called} {replies : List Answer} {r : Receiver}
    → Ran start calls replies r → Type 0
OneSlice a (started o call) = Unit {0}
OneSlice a (called ran step) = OneSlice a ran × Lends (lent_on a ran) step

-- while a frame is gathered, some message was offered before, and that is the slice as it was left
left_same : (start : Sums) (calls : List Called) {r : Receiver} {c : Called} {reply : Answer} {r₁ : Receiver} (step : Step r c reply r₁) (a b : List ℕ)
    → ((gathering_by (judged_by (starting_sums start) calls)).is_on ≡ true → a ≡ b)
    → (gathering_by (judged_by (starting_sums start) (c ∷ calls))).is_on ≡ true → left_after step a ≡ left_after step b
unfolding left_after offers_by
left_same start calls (Step.message octets lent o left call) a b before on = refl
left_same start calls (Step.set octets o call) a b before on = go (gathering_by (judged_by s calls)).is_on refl
  where
    s : Sums
    s = starting_sums start

    go : (t : Bool) → (gathering_by (judged_by s calls)).is_on ≡ t → a ≡ b
    go true e = before e
    go false e = absurd (true≢false (sym on ∙ set-unbegun s octets.now (offers_by s calls) e))

lent_on_left : (a : List ℕ) {start : Sums} {calls : List Called} {replies : List Answer} {r : Receiver} (ran : Ran start calls replies r)
    → (gathering_by (judged_by (starting_sums start) calls)).is_on ≡ true → lent_on a ran ≡ left_by ran
unfolding lent_on left_by offers_by judged gathering_by
lent_on_left a (started o call) on = absurd (false≢true on)
lent_on_left a {start} (called {calls = calls} ran step) on =
    left_same start calls step (lent_on a ran) (left_by ran) (λ before. lent_on_left a ran before) on

-- a host that lends one slice and never touches it meets the condition of C-12
pub OneSlice-unaltered : (a : List ℕ) {start : Sums} {calls : List Called} {replies : List Answer} {r : Receiver} (ran : Ran start calls replies r)
    → OneSlice a ran → Unaltered ran
unfolding OneSlice Unaltered
OneSlice-unaltered a (started o call) one = tt
OneSlice-unaltered a (called ran step) one = (OneSlice-unaltered a ran one.0, λ on. subst (λ (l : List ℕ). Lends l step) (lent_on_left a ran on) one.1)

-- the step that the next call makes, lent the slice a if it is a message, and the slice's length after it
record MadeAt (r : Receiver) (a : List ℕ) (c : Called) : Type 0 where
  made : Made r c
  lends : Lends a made.step
  length : length (left_after made.step a) ≡ length a

make_at : (r : Receiver) → Sized r → (a : List ℕ) (c : Call) → MadeAt r a (called_at (length a) c)
unfolding make ref_to mut_to refs_to Lends left_after
make_at r z a (message octets below s way) =
    let s₀ = slices s.rows s.levels a in
    let given = answer r z octets below s₀ in
    record {
      made = make r z (message octets below s₀ way);
      lends = refl;
      length = length-assembly r octets s₀ given.outcome given.left given.meets;
    }
make_at r z a (set octets below way) = record { made = make r z (set octets below way); lends = tt; length = refl }

-- a run from a, and the lengths that the next call needs
OneSliceRun : Sums → List ℕ → List Called → Type 0
OneSliceRun start a calls =
    (replies : List Answer) × (r : Receiver) × (ran : Ran start calls replies r) × OneSlice a ran × Sized r × (length (lent_on a ran) ≡ length a)

OneSlice-run : (start : Sums) (way : Way) (a : List ℕ) (calls : List Call) → OneSliceRun start a (map (called_at (length a)) calls)
unfolding start-outcome OneSliceRun OneSlice lent_on
OneSlice-run start way a [] =
    ([], fresh (starting_sums start), Ran.started (start-outcome start) (start-call way start), tt, sized_fresh (starting_sums start), refl)
OneSlice-run start way a (c ∷ calls) =
    let run = OneSlice-run start way a calls in
    let on = make_at run.1 run.4 (lent_on a run.2) c in
    let made = on.made in
    subst (λ (n : ℕ). OneSliceRun start a (called_at n c ∷ map (called_at (length a)) calls)) run.5
    (made.reply ∷ run.0, made.next, Ran.called run.2 made.step, (run.3, on.lends), made.sized, on.length ∙ run.5)

pub every_list_runs_unaltered : (start : Sums) (way : Way) (a : List ℕ) (calls : List Call)
    → (replies : List Answer) × (r : Receiver) × (ran : Ran start (map (called_at (length a)) calls) replies r) × OneSlice a ran × Unaltered ran
unfolding OneSliceRun
every_list_runs_unaltered start way a calls =
    let run = OneSlice-run start way a calls in (run.0, run.1, run.2, run.3, OneSlice-unaltered a run.2 run.3)

-- ---- demand 3 whole: every list of calls, in order, has a run, and one that is lent one assembly slice, which is unaltered; of every
-- unaltered run the claim holds; of every run, unaltered or not, what Within says; and of every run of a list without first fragments the
-- claim, on no condition

map_reverse_aux : (f : Call → Called) (calls done : List Call) → map f (reverse_aux calls done) ≡ reverse_aux (map f calls) (map f done)
map_reverse_aux f [] done = refl
map_reverse_aux f (c ∷ calls) done = map_reverse_aux f calls (c ∷ done)

pub demand_3_whole : (start : Sums) (way : Way) (list : List Call)
    → ((replies : List Answer) × (r : Receiver) × RanInOrder start (map called_of list) replies r)
    × ((a : List ℕ) → (replies : List Answer) × (r : Receiver) × (ran : RanInOrder start (map (called_at (length a)) list) replies r) × OneSlice a ran × Unaltered ran)
    × ((calls : List Called) (replies : List Answer) (r : Receiver) (ran : RanInOrder start calls replies r) → Unaltered ran
    → Demand3 start calls replies r ran)
    × ((calls : List Called) (replies : List Answer) (r : Receiver) (ran : RanInOrder start calls replies r)
    → Within start calls replies r ran)
    × ((calls : List Called) (replies : List Answer) (r : Receiver) (ran : RanInOrder start calls replies r) → NoneBegins calls
    → Demand3 start calls replies r ran)
demand_3_whole start way list =
    let run = every_list_runs start way (reverse list) in (
      (
        reverse run.0,
        run.1,
        subst₂ (λ (calls : List Called) (replies : List Answer). Ran start calls replies run.1) (map_reverse_aux called_of list []) (sym (reverse-reverse run.0)) run.2,
      ),
      λ a.
          let on = every_list_runs_unaltered start way a (reverse list) in
          let in_order : (ran : RanInOrder start (map (called_at (length a)) list) (reverse on.0) on.1) × OneSlice a ran × Unaltered ran =
          subst₂ (λ (calls : List Called) (replies : List Answer). (ran : Ran start calls replies on.1) × OneSlice a ran × Unaltered ran)
          (map_reverse_aux (called_at (length a)) list []) (sym (reverse-reverse on.0)) (on.2, on.3, on.4) in
          (reverse on.0, on.1, in_order.0, in_order.1, in_order.2),
      demand_3 start,
      every_run_within start,
      demand_3_unsplit start,
    )
