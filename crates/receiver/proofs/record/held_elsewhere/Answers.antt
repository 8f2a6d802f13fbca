-- `receiver::record::held_elsewhere` meets its contract: behind the loop every channel was passed.
use mathlib.Core.Path.{◌≡◌}
use native.Mathlib.Omega.{arith}
use Rattle.receiver.proofs.record.held_elsewhere.Goals as goal

pub returns : goal.returns
returns c = let all : c.loop-other.other ≡ 64 = omega arith in rw all at c.loop-other.invariant
