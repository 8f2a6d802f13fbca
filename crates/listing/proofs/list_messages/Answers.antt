-- `listing::list_messages` meets its contract: it begins, and lists what waits whole between one read and the next.
use Rattle.std.proofs.Common.{ap, ◌∙◌, Ok}
use Rattle.receiver.specs.Contract.{outcome}
use Rattle.listing.specs.Waiting.{unlisted}
use Rattle.listing.proofs.ProgressLaws.{begins, waits_on, put_start, put_out, failed_with}
use Rattle.listing.proofs.list_messages.Goals as goal

pub returns-in_err-next-clause-progress : goal.returns-in_err-next-clause-progress
returns-in_err-next-clause-progress g c =
    let o = outcome c.args.host.now.receiver c.requires.started.0 in (
      0,
      waits_on (begins (unlisted g.R.Read.remaining c.args.input.now) o c.requires.started.1 c.args.host.now.assembly (put_start g.W.Write.contents c.args.out.now)) c.in_err-next.ensures.keeps (λ text p. p),
      failed_with c.from_residual.result _ _ c.from_residual.ensures.0 c.in_err-next.ensures.err,
    )

pub loop-next-init : goal.loop-next-init
loop-next-init g c =
    let o = outcome c.args.host.now.receiver c.requires.started.0 in
    record {
      progress = waits_on (begins (unlisted g.R.Read.remaining c.args.input.now) o c.requires.started.1 c.args.host.now.assembly (put_start g.W.Write.contents c.args.out.now)) c.in_ok-next.ensures.keeps (λ text p. p);
      stands = c.in_ok-next.ensures.next;
      end = λ e. c.read_message.ensures.end (c.in_ok-next.was ∙ ap Ok e);
    }

pub returns-in_err-next-2-clause-progress : goal.returns-in_err-next-2-clause-progress
returns-in_err-next-2-clause-progress g c = (
  c.list_waiting-messages.result,
  waits_on (c.list_waiting-messages.ensures.on (unlisted g.R.Read.remaining c.args.input.now) c.args.out.now c.loop-next.invariant.progress) c.in_err-next-2.ensures.keeps
      (λ text p. put_out g.W.Write.contents c.args.out.now c.list_waiting-messages.new.out c.flush_to_wait.new.out text p c.flush_to_wait.ensures.put),
  failed_with c.from_residual-in_err-next-2.result _ _ c.from_residual-in_err-next-2.ensures.0 c.in_err-next-2.ensures.err,
)

pub loop-next-preserved : goal.loop-next-preserved
loop-next-preserved g c =
    record {
      progress =
          waits_on (c.list_waiting-messages.ensures.on (unlisted g.R.Read.remaining c.args.input.now) c.args.out.now c.loop-next.invariant.progress) c.in_ok-next-2.ensures.keeps
          (λ text p. put_out g.W.Write.contents c.args.out.now c.list_waiting-messages.new.out c.flush_to_wait.new.out text p c.flush_to_wait.ensures.put);
      stands = c.in_ok-next-2.ensures.next;
      end = λ e. c.read_message-in-loop-next.ensures.end (c.in_ok-next-2.was ∙ ap Ok e);
    }
