-- `receiver::gather::Gathered::after` meets its contract: another refusal leaves the frame as it is.
use Rattle.std.proofs.Common.{rules}
use Rattle.receiver.specs.Steps.{gathered_after}
use Rattle.receiver.proofs.gather.Gathered.after.Goals as goal

pub returns-in_default-4 : goal.returns-in_default-4
unfolding gathered_after
returns-in_default-4 c m e = rw (← e.last, ← e.close, ← e.routes, ← e.channel, ← e.chunk_type, ← c.gathers-fragment.ensures, ← c.is_on-here.ensures) (search rules)
