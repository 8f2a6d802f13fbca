use Rattle.std.proofs.Common.{◌≡◌, ◌-◌, replicate}
use lib.Seq.{paste}
use Rattle.samples.proofs.fixed_list.FixedList.into_array.Given as goal

-- The places that the loop has passed hold blanks, from the length on.
abbrev pub invariant-loop-place : goal.invariant-loop-place
invariant-loop-place g l =
    l.item-items ≡ paste l.self-inside.items l.self-inside.len (replicate (l.place - l.self-inside.len) l.blank) (l.place - l.self-inside.len)
