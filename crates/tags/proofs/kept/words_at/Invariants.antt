use Rattle.std.proofs.Common.{◌≡◌, length, take}
use Rattle.tags.specs.Kept.{words_at}
use Rattle.tags.proofs.kept.words_at.Given as goal

-- `tags::kept::words_at` meets its contract. The loop's invariant: the first i words are those of the area.
abbrev pub invariant-loop-i : goal.invariant-loop-i
invariant-loop-i g l = (length l.word-items ≡ l.i-end) × (take l.i l.word-items ≡ words_at l.area l.from l.i)
