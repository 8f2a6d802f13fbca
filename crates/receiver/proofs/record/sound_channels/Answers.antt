-- `receiver::record::sound_channels` meets its contract: behind the loop every channel was passed.
use mathlib.Core.Path.{◌≡◌}
use native.Mathlib.Omega.{arith}
use Rattle.receiver.proofs.record.sound_channels.Goals as goal

pub returns : goal.returns
returns c = let all : c.loop-c.c ≡ 64 = omega arith in rw all at c.loop-c.invariant
