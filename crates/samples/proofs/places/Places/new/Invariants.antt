use mathlib.Core.Path.{◌≡◌}
use lib.ListN.{length}
use Rattle.samples.proofs.RoleLaws.{Filled}
use Rattle.samples.proofs.places.Places.new.Given as goal

-- `new`: the loop goes from the last octet to the first; what it has passed is in the table.
abbrev pub invariant-loop-i : goal.invariant-loop-i
invariant-loop-i l = Filled l.places.table l.roles l.i × (l.places.width ≡ length l.roles)
