use mathlib.Core.Path.{◌≡◌}
use Rattle.receiver.specs.Kinds.{mode_number}
use Rattle.receiver.specs.Steps.{held_states}
use Rattle.receiver.proofs.record.held_elsewhere.Given as goal

-- `receiver::record::held_elsewhere` meets its contract. The invariant: what was found is what the channels passed show.
abbrev pub invariant-loop-other : goal.invariant-loop-other
invariant-loop-other l = l.held ≡ held_states l.channels (mode_number l.fn.mode) l.channel.0 l.other
