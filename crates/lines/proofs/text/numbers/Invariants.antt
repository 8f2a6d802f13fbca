-- The invariant of the loop of `lines::text::numbers`: the numbers before this one, each after a space, stand at the front of the slice,
-- which is as long as it was.
use Rattle.std.proofs.Common.{◌≡◌, length, take}
use Rattle.lines.specs.Text.{spaced, Front}
use Rattle.lines.proofs.text.numbers.Given as goal

abbrev pub invariant-loop-n : goal.invariant-loop-n
invariant-loop-n l =
    Front (spaced (take l.n-index l.ns)) l.initial.out l.at l.out × (length l.out ≡ length l.initial.out)
