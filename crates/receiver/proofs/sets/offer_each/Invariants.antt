use Rattle.receiver.specs.Stream.{parts_in}
use Rattle.receiver.specs.Record.{record_in}
use Rattle.receiver.proofs.UnderwayLaws.{Underway}
use Rattle.receiver.proofs.sets.offer_each.Given as goal

-- `receiver::sets::offer_each` meets its contract. The invariant: the set is under way, with the parts that are left to go over.
abbrev pub invariant-loop-part : goal.invariant-loop-part
invariant-loop-part l =
    Underway (record_in l.initial.channels l.meters l.initial.gathered) (parts_in l.octets) l.place (parts_in l.part-iterator.octets.now)
    (record_in l.channels l.meters l.gathered)
