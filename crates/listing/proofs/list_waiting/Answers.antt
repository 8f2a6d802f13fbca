-- `listing::list_waiting` meets its contract: each turn lists the message at the front of what waits.
use Rattle.std.proofs.Common.{List, ℕ, arith, refl, ◌<◌, ◌∙◌, sym, ap, take, inr}
use Rattle.receiver.specs.Contract.{outcome}
use Rattle.lines.specs.Lines.{reply_line}
use Rattle.listing.specs.Hosting.{slices_of}
use Rattle.listing.specs.Waiting.{waiting_in}
use Rattle.listing.proofs.ProgressLaws.{goes_waiting, put_more}
use Rattle.listing.proofs.ReadingLaws.{has-message}
use Rattle.listing.proofs.list_waiting.Goals as goal

pub loop-input-preserved : goal.loop-input-preserved
loop-input-preserved g c =
    let told = c.list_message.ensures.answered in
    let some : 0 < c.loop-input.size = has-message c.loop-input.size c.loop-input.messages (sym c.goes_on.ensures ∙ c.loop-input-test.true) in
    record {
      on = λ left o p.
          goes_waiting (g.R.Read.remaining c.loop-input.input.from) (g.R.Read.remaining c.consume.new.self.from) (waiting_in c.loop-input.input) (waiting_in c.consume.new.self)
          (take c.loop-input.size c.waiting-in-loop-input.result.now) c.loop-input.size
          (c.loop-input.invariant.on left o p) c.loop-input.invariant.size some (ap (λ (l : List ℕ). take c.loop-input.size l) c.waiting-in-loop-input.ensures) c.consume.ensures.waiting (ap g.R.Read.remaining c.consume.ensures.from)
          (slices_of c.loop-input.host) (slices_of c.list_message.new.host) (outcome c.list_message.new.host.receiver told.0) c.list_message.ensures.lent refl told.1
          (λ text before. put_more g.W.Write.contents o c.loop-input.out c.list_message.new.out text (reply_line told.0) before told.2);
      size = rw c.waiting-in-loop-input-2.ensures at c.entry-size-in-loop-input.ensures.value;
      fits = rw c.waiting-in-loop-input-2.ensures at c.entry-size-in-loop-input.ensures.upper_bound;
      more = omega (arith, c.loop-input.invariant.more);
      first = λ h. inr (omega (arith, c.loop-input.invariant.more));
    }
