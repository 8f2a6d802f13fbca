use mathlib.Core.Path.{◌≡◌}
use Rattle.receiver.specs.Record.{consistent_up_to}
use Rattle.receiver.proofs.record.sound_channels.Given as goal

-- `receiver::record::sound_channels` meets its contract. The invariant: the flag is what the rule says of the channels passed.
abbrev pub invariant-loop-c : goal.invariant-loop-c
invariant-loop-c l = l.sound ≡ consistent_up_to l.channels l.c
