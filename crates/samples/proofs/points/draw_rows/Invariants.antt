use Prim.Native.Nat.{◌-◌, ◌*◌, ◌≤◌}
use mathlib.Core.Path.{◌≡◌}
use mathlib.Core.List.{◌++◌}
use lib.ListN.{drop}
use Rattle.samples.specs.Limits.{row_size}
use Rattle.samples.specs.Points.{rows_of, behind, lit_in}
use Rattle.samples.specs.Plan.{Ready}
use Rattle.samples.proofs.points.draw_rows.Given as goal

-- `draw_rows`: the rows of the samples that the loop has passed stand at the start, and after them what stood there.
abbrev pub invariant-loop-i : goal.invariant-loop-i
invariant-loop-i l =
    (l.lit ≤ l.i)
    × ((d : Ready l.plan l.width) → (l.lit ≡ lit_in d.roles (behind d.roles l.start l.octets) (l.i - l.start)) × (l.rows ≡ rows_of d.roles d.waves l.octets l.i ++ drop (l.i * row_size) l.initial.rows))
