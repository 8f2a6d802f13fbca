-- `receiver::message::answer` meets its contract: refused by 2 to 14, or handled and the record settled as the law of an answer has it.
use mathlib.Core.Path.{◌≡◌, refl, sym, ap, subst, ◌∙◌}
use mathlib.Core.List.{List}
use Prim.Native.Nat.{ℕ}
use Rattle.std.specs.Prelude.{Result}
use Rattle.receiver.specs.Slices.{Slices, slices}
use Rattle.receiver.specs.Checks.{governs}
use Rattle.receiver.specs.Effects.{reply_of}
use Rattle.receiver.specs.Record.{record_in, gathering_of, channels_of}
use Rattle.receiver.specs.Meters.{over_limit}
use Rattle.receiver.specs.Contract.{outcome, readings_of, sums_in, Answered}
use Rattle.receiver.specs.Steps.{gathered_by, gathered_after, risen_from, Handled}
use Rattle.receiver.specs.Refusal.{refusal_number, number_in}
use Rattle.receiver.specs.Views.{ReadAs, meaning, counts_in, done_of, reply_in}
use Rattle.receiver.specs.declared.Receiver.{Receiver}
use Rattle.receiver.specs.declared.Readings.{Readings}
use Rattle.receiver.specs.declared.Reply.{Reply}
use Rattle.receiver.specs.declared.draw.Counts.{Counts}
use Rattle.receiver.specs.declared.governing.Governing as declared_governing
use Rattle.receiver.specs.declared.incoming.Message.{Message}
use Rattle.receiver.specs.declared.refusal.Refusal.{Refusal}
use Rattle.receiver.proofs.JudgeLaws.{consistent-limit, consistent-channels}
use Rattle.receiver.proofs.SizedLaws.{consistent-sized, risen_none}
use Rattle.receiver.proofs.NumberLaws.{refusal-some, refused-is}
use Rattle.receiver.proofs.RefusalLaws.{answered-early}
use Rattle.receiver.proofs.AnswerLaws.{fragment-ends, accepted-counts, counts_fit, answered-settled}
use Rattle.receiver.proofs.message.answer.Goals as goal

pub returns-in_err-message-clause-answered : goal.returns-in_err-message-clause-answered
returns-in_err-message-clause-answered c =
    let r : Receiver = record_in c.args.channels.now c.args.meters.now c.args.gathered.now in
    let s : Slices = slices c.args.rows.now c.args.levels.now c.args.assembly.now in
    let x = c.in_err-message.field-0.0 in
    let number = c.in_err-message.ensures.number in
    let same = refused-is c.from_residual.result x c.from_residual.ensures.0 c.from_residual.ensures.1 in
    subst (λ (reply : Reply). Answered r c.args.octets.now s (outcome r reply) s) (ap reply_in (sym same))
    (answered-early r c.args.octets.now s c.requires (refusal_number x) (refusal-some x) (let e = refusal-some x in rw (← number, e)))

pub find-requires : goal.find-requires
find-requires c = consistent-channels (record_in c.args.channels.now c.args.meters.now c.args.gathered.now) c.requires

pub returns-in_err-find-clause-answered : goal.returns-in_err-find-clause-answered
returns-in_err-find-clause-answered c =
    let r : Receiver = record_in c.args.channels.now c.args.meters.now c.args.gathered.now in
    let s : Slices = slices c.args.rows.now c.args.levels.now c.args.assembly.now in
    let x = c.in_err-find.field-0.0 in
    let read = c.in_ok-message.ensures in
    let number = c.in_err-find.ensures.number c.args.octets.now in
    let same = refused-is c.from_residual-in_err-find.result x c.from_residual-in_err-find.ensures.0 c.from_residual-in_err-find.ensures.1 in
    subst (λ (reply : Reply). Answered r c.args.octets.now s (outcome r reply) s) (ap reply_in (sym same))
    (answered-early r c.args.octets.now s c.requires (refusal_number x) (refusal-some x) (rw (← read.number) (number read.read)))

pub handle-answer-requires : goal.handle-answer-requires
handle-answer-requires c =
    ap over_limit (ap sums_in c.from-readings.ensures)
    ∙ consistent-limit (record_in c.args.channels.now c.args.meters.now c.args.gathered.now) c.requires

pub after-requires : goal.after-requires
after-requires c accepted fragment =
    let r : Receiver = record_in c.args.channels.now c.args.meters.now c.args.gathered.now in
    let m : List ℕ = c.args.octets.now in
    let s : Slices = slices c.args.rows.now c.args.levels.now c.args.assembly.now in
    let s₁ : Slices = slices c.handle-answer.new.rows c.handle-answer.new.levels c.handle-answer.new.assembly in
    let x : Message = c.in_ok-message.message in
    let e : ReadAs m x = c.in_ok-message.ensures.read in
    let by : declared_governing.Governing = c.find.new.self in
    let found : number_in c.find.result ≡ 0 = ap number_in c.in_ok-find.was in
    let same : meaning by ≡ governs m (channels_of r) = c.find.ensures.governs m c.args.meters.now c.args.gathered.now e found in
    let handled : Handled r m s (done_of c.handle-answer.result) s₁ = c.handle-answer.ensures m r e (sym c.in_ok-message.ensures.number) (sym (c.find.ensures.number m e) ∙ found) refl (sym c.from-frame.ensures) (sym (ap sums_in c.from-readings.ensures)) same in
    rw (c.from-frame.ensures) (fragment-ends r c.requires m s x e by c.settle.ensures.whole same c.handle-answer.result s₁ handled accepted fragment)

pub returns-in_err-counts-clause-answered : goal.returns-in_err-counts-clause-answered
unfolding reply_of
returns-in_err-counts-clause-answered c =
    let r : Receiver = record_in c.args.channels.now c.args.meters.now c.args.gathered.now in
    let m : List ℕ = c.args.octets.now in
    let s : Slices = slices c.args.rows.now c.args.levels.now c.args.assembly.now in
    let s₁ : Slices = slices c.handle-answer.new.rows c.handle-answer.new.levels c.handle-answer.new.assembly in
    let x : Message = c.in_ok-message.message in
    let e : ReadAs m x = c.in_ok-message.ensures.read in
    let by : declared_governing.Governing = c.find.new.self in
    let found : number_in c.find.result ≡ 0 = ap number_in c.in_ok-find.was in
    let same : meaning by ≡ governs m (channels_of r) = c.find.ensures.governs m c.args.meters.now c.args.gathered.now e found in
    let handled : Handled r m s (done_of c.handle-answer.result) s₁ = c.handle-answer.ensures m r e (sym c.in_ok-message.ensures.number) (sym (c.find.ensures.number m e) ∙ found) refl (sym c.from-frame.ensures) (sym (ap sums_in c.from-readings.ensures)) same in
    let y = c.in_err-counts.field-0.0 in
    let told = refused-is c.from_residual-in_err-counts.result y c.from_residual-in_err-counts.ensures.0 c.from_residual-in_err-counts.ensures.1 in
    answered-settled r c.requires m s x e by c.settle.ensures.whole same c.handle-answer.result s₁ handled c.settle.new.channels c.args.meters.now c.into.result (reply_in c.from_residual-in_err-counts.result) c.settle.ensures.settled
    (sym (ap (λ (p : Result Counts Refusal). risen_from (readings_of r) (counts_in p)) c.in_err-counts.was ∙ risen_none r (consistent-sized r c.requires).meters))
    (c.into.ensures ∙ ap gathered_by (c.after.ensures m e ∙ ap (gathered_after m (number_in c.handle-answer.result) (meaning by)) c.from-frame.ensures))
    (ap reply_in told ∙ sym (rw (c.in_err-counts.was, refusal-some y)))

pub with-requires : goal.with-requires
with-requires c =
    let r : Receiver = record_in c.args.channels.now c.args.meters.now c.args.gathered.now in
    let m : List ℕ = c.args.octets.now in
    let s : Slices = slices c.args.rows.now c.args.levels.now c.args.assembly.now in
    let s₁ : Slices = slices c.handle-answer.new.rows c.handle-answer.new.levels c.handle-answer.new.assembly in
    let x : Message = c.in_ok-message.message in
    let e : ReadAs m x = c.in_ok-message.ensures.read in
    let by : declared_governing.Governing = c.find.new.self in
    let found : number_in c.find.result ≡ 0 = ap number_in c.in_ok-find.was in
    let same : meaning by ≡ governs m (channels_of r) = c.find.ensures.governs m c.args.meters.now c.args.gathered.now e found in
    let handled : Handled r m s (done_of c.handle-answer.result) s₁ = c.handle-answer.ensures m r e (sym c.in_ok-message.ensures.number) (sym (c.find.ensures.number m e) ∙ found) refl (sym c.from-frame.ensures) (sym (ap sums_in c.from-readings.ensures)) same in
    rw (c.from-readings.ensures, ← ap counts_in c.in_ok-counts.was) (counts_fit r c.requires m s x e by c.settle.ensures.whole same c.handle-answer.result s₁ handled)

pub returns-clause-answered : goal.returns-clause-answered
returns-clause-answered c =
    let r : Receiver = record_in c.args.channels.now c.args.meters.now c.args.gathered.now in
    let m : List ℕ = c.args.octets.now in
    let s : Slices = slices c.args.rows.now c.args.levels.now c.args.assembly.now in
    let s₁ : Slices = slices c.handle-answer.new.rows c.handle-answer.new.levels c.handle-answer.new.assembly in
    let x : Message = c.in_ok-message.message in
    let e : ReadAs m x = c.in_ok-message.ensures.read in
    let by : declared_governing.Governing = c.find.new.self in
    let found : number_in c.find.result ≡ 0 = ap number_in c.in_ok-find.was in
    let same : meaning by ≡ governs m (channels_of r) = c.find.ensures.governs m c.args.meters.now c.args.gathered.now e found in
    let handled : Handled r m s (done_of c.handle-answer.result) s₁ = c.handle-answer.ensures m r e (sym c.in_ok-message.ensures.number) (sym (c.find.ensures.number m e) ∙ found) refl (sym c.from-frame.ensures) (sym (ap sums_in c.from-readings.ensures)) same in
    let accepted : number_in c.handle-answer.result ≡ 0 = ap number_in c.in_ok-counts.was in
    let counts : counts_in c.handle-answer.result ≡ c.in_ok-counts.counts = ap counts_in c.in_ok-counts.was in
    answered-settled r c.requires m s x e by c.settle.ensures.whole same c.handle-answer.result s₁ handled c.settle.new.channels c.into-2.result c.into.result c.reply.result c.settle.ensures.settled
    (c.into-2.ensures ∙ c.with.ensures ∙ ap (λ (q : Readings). risen_from q c.in_ok-counts.counts) c.from-readings.ensures ∙ ap (risen_from (readings_of r)) (sym counts))
    (c.into.ensures ∙ ap gathered_by (c.after.ensures m e ∙ ap (gathered_after m (number_in c.handle-answer.result) (meaning by)) c.from-frame.ensures))
    (c.reply.ensures.value m (gathering_of r s.assembly) e (sym counts ∙ accepted-counts r c.requires m s x e by c.settle.ensures.whole same c.handle-answer.result s₁ handled accepted) ∙ ap (λ (n : ℕ). reply_of m n (meaning by) (gathering_of r s.assembly)) (sym accepted))
