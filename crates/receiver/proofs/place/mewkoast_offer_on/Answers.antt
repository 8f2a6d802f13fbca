-- `receiver::place::mewkoast_offer_on` meets its contract: arrays of other lengths are left alone, and a record is offered the message.
use mathlib.Core.Path.{sym, subst, ◌∙◌}
use Rattle.receiver.specs.Slices.{slices}
use Rattle.receiver.specs.Record.{record_in, consistent}
use Rattle.receiver.specs.Contract.{outcome, Answered}
use Rattle.receiver.specs.declared.Receiver.{Receiver}
use Rattle.receiver.proofs.RefusalLaws.{answered_inconsistent}
use Rattle.receiver.proofs.place.mewkoast_offer_on.Goals as goal

pub returns-then-not-is_record : goal.returns-then-not-is_record
unfolding consistent
returns-then-not-is_record c =
    answered_inconsistent (record_in c.args.channels.now c.args.meters.now c.args.gathered.now) c.args.octets.now (slices c.args.rows.now c.args.levels.now c.args.assembly.now) c.into.result
    (rw (sym c.is_record.ensures ∙ c.if-not-is_record.true)) c.into.ensures

pub returns : goal.returns
returns c =
    let channels = (rw c.unwrap.ensures at c.as_mut_array.ensures.cases).same in
    let meters = (rw c.unwrap-2.ensures at c.as_mut_array-2.ensures.cases).same in
    let gathered = (rw c.unwrap-3.ensures at c.as_mut_array-3.ensures.cases).same in
    subst
    (λ (r : Receiver). Answered r c.args.octets.now (slices c.args.rows.now c.args.levels.now c.args.assembly.now) (outcome (record_in c.offer.new.channels c.offer.new.meters c.offer.new.gathered) c.offer.result) (slices c.offer.new.rows c.offer.new.levels c.offer.new.assembly))
    (λ i. record_in (channels i) (meters i) (gathered i)) c.offer.ensures
