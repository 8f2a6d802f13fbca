-- The loop of `listing::list_messages`: the messages so far are listed, and what stands at the front of what waits is known.
use Rattle.std.proofs.Common.{ℕ, ◌-◌, ◌≡◌, List}
use Rattle.std.specs.Io.KnownBytes.{IsAtEnd}
use Rattle.lines.specs.Reading.{largest, StandsFirst}
use Rattle.lines.specs.declared.reading.Next.TheVariants.{End}
use Rattle.listing.specs.Waiting.{waiting_in, unlisted}
use Rattle.listing.specs.Writing.{Puts}
use Rattle.listing.specs.Progress.{Progress}
use Rattle.listing.proofs.list_messages.Given as goal

abbrev pub invariant-loop-next : goal.invariant-loop-next
invariant-loop-next g l = record {
  progress : Progress (unlisted g.R.Read.remaining l.fn.input) (unlisted g.R.Read.remaining l.input) (λ (text : List ℕ). Puts g.W.Write.contents l.fn.out text l.out) l.host.receiver l.host.assembly l.messages;
  stands : StandsFirst l.next (waiting_in l.input);
  end : l.next ≡ End → IsAtEnd (g.R.Read.remaining l.input.from);
}

abbrev pub decreases-loop-next : goal.decreases-loop-next
decreases-loop-next g l = largest - l.messages
