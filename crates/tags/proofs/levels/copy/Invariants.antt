use Rattle.std.proofs.Common.{◌≡◌, ◌≤◌, length}
use lib.Seq.{paste}
use Rattle.tags.proofs.levels.copy.Given as goal

-- the first i octets of the part are in place (lib.Seq's `paste`)
abbrev pub invariant-loop-i : goal.invariant-loop-i
invariant-loop-i l =
    (l.i ≤ length l.part) × (l.levels ≡ paste l.initial.levels l.place l.part l.i) × (length l.levels ≡ length l.initial.levels)
