use Rattle.std.proofs.Common.{◌≡◌, ◌*◌}
use Rattle.std.proofs.Math.Seq.{paste}
use Rattle.tags.specs.Kept.{word_octets}
use Rattle.tags.proofs.kept.put_words.Given as goal

-- `tags::kept::put_words` meets its contract. The loop's invariant: the octets of the first i words are in place.
abbrev pub invariant-loop-i : goal.invariant-loop-i
invariant-loop-i l = l.area ≡ paste l.initial.area l.from (word_octets l.words) (l.i * 2)
