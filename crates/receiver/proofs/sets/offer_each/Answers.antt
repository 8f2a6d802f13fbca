-- `receiver::sets::offer_each` meets its contract: the parts in turn, each offered to what the one before left.
use native.Mathlib.Omega.{arith}
use Rattle.receiver.proofs.UnderwayLaws.{underway_next, underway_counted}
use Rattle.receiver.proofs.PatchedLaws.{patched_refused, patched_accepted}
use Rattle.receiver.proofs.sets.offer_each.Goals as goal

pub returns-in-Err : goal.returns-in-Err
returns-in-Err c = patched_refused _ _ c.loop-part.invariant c.in-Some.ensures.steps c.in-Err.ensures c.refused-in-Err.ensures

pub overflow_add-place : goal.overflow_add-place
overflow_add-place c = let counted = underway_counted c.args.octets.now c.loop-part.invariant c.in-Some.ensures.steps in omega (arith, counted)

pub loop-part-preserved : goal.loop-part-preserved
loop-part-preserved c = underway_next c.loop-part.invariant c.in-Some.ensures.steps c.in_default.ensures

pub returns : goal.returns
returns c = patched_accepted _ c.loop-part.invariant c.in-None.ensures.steps.0
