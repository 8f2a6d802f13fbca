use mathlib.Core.Path.{◌≡◌}
use lib.ListN.{length, take}
use Rattle.samples.specs.Limits.{row_size}
use Rattle.samples.proofs.plan.copy_template.Given as goal

-- `copy_template`: the row is the template as far as the loop has come.
abbrev pub invariant-loop-k : goal.invariant-loop-k
invariant-loop-k l = (length l.row ≡ row_size) × (take l.k l.row ≡ take l.k l.template)
