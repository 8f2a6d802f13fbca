use Rattle.std.proofs.Common.{length}
use Rattle.tags.specs.DimmerView.{mapping_so_far, Based}
use Rattle.tags.proofs.DimmerWalkLaws.{Reached}
use Rattle.tags.proofs.dimming.read.Given as goal

-- `tags::dimming::read` meets its contract. The loop's invariant: the walk over all octets has come to a tag, with what the record says.
abbrev pub invariant-loop-rest : goal.invariant-loop-rest
invariant-loop-rest l = Reached l.tags l.rest (mapping_so_far l.walk) × Based l.walk

abbrev pub decreases-loop-rest : goal.decreases-loop-rest
decreases-loop-rest l = length l.rest
