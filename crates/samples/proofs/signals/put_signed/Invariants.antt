use mathlib.Core.Path.{◌≡◌}
use lib.ListN.{length}
use Rattle.samples.specs.Limits.{row_size}
use Rattle.samples.specs.Signals.{signed_in, Stored}
use Rattle.samples.proofs.signals.put_signed.Given as goal

-- `put_signed`: the signals that the loop has passed are stored.
abbrev pub invariant-loop-signal : goal.invariant-loop-signal
invariant-loop-signal l =
    (length l.row ≡ row_size) × Stored (signed_in l.sample) l.list l.signal-index l.initial.row l.row
