-- `dictionary::read`: the walk so far, on over the words that are left, is the walk over all.
use Rattle.std.proofs.Common.{◌≡◌, length}
use Rattle.tags.specs.Dictionary.{walked, word_count}
use Rattle.tags.specs.DictionaryView.{walk_of}
use Rattle.tags.proofs.DictionaryWalkLaws.{onward}
use Rattle.tags.proofs.dictionary.read.Given as goal

abbrev pub invariant-loop-words : goal.invariant-loop-words
invariant-loop-words l = onward l.mode (walk_of l.walk) l.words ≡ walked l.mode l.tags (word_count l.tags)

abbrev pub decreases-loop-words : goal.decreases-loop-words
decreases-loop-words l = length l.words
