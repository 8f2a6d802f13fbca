-- `receiver::place::mewkoast_patch_on` meets its contract: arrays of other lengths are left alone, and to any other the messages are offered.
use mathlib.Core.Path.{◌≡◌, sym, subst, ◌∙◌}
use mathlib.Core.Bool.{false}
use Rattle.receiver.specs.Record.{record_in, sized, consistent}
use Rattle.receiver.specs.Contract.{set_outcome, Patched}
use Rattle.receiver.specs.declared.Receiver.{Receiver}
use Rattle.receiver.specs.declared.SetReply.{SetReply}
use Rattle.receiver.proofs.PatchedLaws.{patched_inconsistent}
use Rattle.receiver.proofs.place.mewkoast_patch_on.Goals as goal

pub returns-then-not-is_record : goal.returns-then-not-is_record
unfolding consistent
returns-then-not-is_record c =
    let r : Receiver = record_in c.args.channels.now c.args.meters.now c.args.gathered.now in
    let other : sized r ≡ false = sym c.is_record.ensures ∙ c.if-not-is_record.true in
    subst (λ (reply : SetReply). Patched r c.args.octets.now (set_outcome r reply)) (sym c.refused.ensures)
    (patched_inconsistent r c.args.octets.now (rw other))

pub returns : goal.returns
returns c =
    let channels = rw c.unwrap.ensures at c.as_mut_array.ensures.cases in
    let meters = rw c.unwrap-2.ensures at c.as_array.ensures.cases in
    let gathered = rw c.unwrap-3.ensures at c.as_mut_array-2.ensures.cases in
    subst
    (λ (r : Receiver). Patched r c.args.octets.now (set_outcome (record_in c.offer_each.new.channels r.meters c.offer_each.new.gathered) c.offer_each.result))
    (λ i. record_in (channels.same i) (meters.same i) (gathered.same i))
    c.offer_each.ensures
