-- The loop of `listing::list_waiting`: the messages so far are listed, and less waits at each turn.
use Rattle.std.proofs.Common.{◌≡◌, ◌≤◌, ◌<◌, length, true, ◌⊎◌}
use Rattle.receiver.specs.Stream.{entry_of}
use Rattle.lines.specs.Reading.{goes_on}
use Rattle.listing.specs.Waiting.{waiting_in, unlisted}
use Rattle.listing.specs.Progress.{ListsOn}
use Rattle.listing.proofs.list_waiting.Given as goal

abbrev pub invariant-loop-input : goal.invariant-loop-input
invariant-loop-input g l = record {
  on : ListsOn g.W.Write.contents (unlisted g.R.Read.remaining l.fn.input) (unlisted g.R.Read.remaining l.input) l.fn.out l.out l.fn.host.receiver l.host.receiver l.fn.host.assembly l.host.assembly l.before l.messages;
  size : l.size ≡ entry_of (waiting_in l.input);
  fits : l.size ≤ length (waiting_in l.input);
  more : l.before ≤ l.messages;
  first : goes_on (entry_of (waiting_in l.fn.input)) l.before ≡ true → goes_on l.size l.messages ≡ true ⊎ (l.before < l.messages);
}

abbrev pub decreases-loop-input : goal.decreases-loop-input
decreases-loop-input g l = length (waiting_in l.input)
