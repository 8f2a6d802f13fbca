-- The loop of `Input::read_message`: what is to be listed stays, and more of it waits at each turn.
use Rattle.std.proofs.Common.{◌-◌, length}
use Rattle.std.specs.Io.KnownBytes.{Keeps}
use Rattle.lines.specs.Reading.{most}
use Rattle.listing.specs.Waiting.{waiting_in, unlisted}
use Rattle.listing.proofs.input.Input.read_message.Given as goal

abbrev pub invariant-loop-self : goal.invariant-loop-self
invariant-loop-self g l = Keeps (unlisted g.R.Read.remaining l.fn.self) (unlisted g.R.Read.remaining l.self)

abbrev pub decreases-loop-self : goal.decreases-loop-self
decreases-loop-self g l = most - length (waiting_in l.self)
