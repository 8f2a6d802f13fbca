use mathlib.Core.Path.{◌≡◌}
use lib.ListN.{length}
use lib.IntN.{pos}
use Rattle.samples.specs.Limits.{row_size}
use Rattle.samples.specs.Signals.{scaled_in, Stored, NoneLit}
use Rattle.samples.proofs.signals.put_scaled.Given as goal

-- `put_scaled`: the signals that the loop has passed are stored, and joined.
abbrev pub invariant-loop-signal : goal.invariant-loop-signal
invariant-loop-signal l =
    (length l.row ≡ row_size) × Stored (λ x. pos (scaled_in l.shift l.sample x)) l.list l.signal-index l.initial.row l.row
    × NoneLit l.joined (scaled_in l.shift l.sample) l.list l.signal-index
