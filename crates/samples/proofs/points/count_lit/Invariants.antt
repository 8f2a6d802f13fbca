use Prim.Native.Nat.{◌-◌, ◌≤◌}
use mathlib.Core.Path.{◌≡◌}
use lib.ListN.{length}
use Rattle.samples.specs.Limits.{row_size}
use Rattle.samples.specs.Points.{behind, samples_in, lit_in}
use Rattle.samples.proofs.points.count_lit.Given as goal

-- `count_lit`: the loop counts the lit ones of the samples that it has passed.
abbrev pub invariant-loop-i : goal.invariant-loop-i
invariant-loop-i l =
    (l.i - l.start ≤ samples_in l.roles l.octets - l.start) × (l.lit ≤ l.i) × (length l.row ≡ row_size)
    × (l.lit ≡ lit_in l.roles (behind l.roles l.start l.octets) (l.i - l.start))
