-- `receiver::message::handle` meets its contract: one of the message's own checks refuses it, or it is done.
use mathlib.Core.Path.{sym, ap, ◌∙◌, subst}
use Rattle.receiver.specs.Slices.{Slices, slices}
use Rattle.receiver.specs.Views.{done_of}
use Rattle.receiver.specs.Meters.{over_limit}
use Rattle.receiver.specs.Refusal.{refusal_number}
use Rattle.receiver.specs.Steps.{Handled, Done}
use Rattle.receiver.proofs.NumberLaws.{refusal-some, refused-is}
use Rattle.receiver.proofs.HandledLaws.{handled-refused, handled}
use Rattle.receiver.proofs.message.handle.Goals as goal

pub returns-in_err-work : goal.returns-in_err-work
returns-in_err-work c m r e header route channels gathered sums governs =
    let s : Slices = slices c.args.rows.now c.args.levels.now c.args.assembly.now in
    let number = c.in_err-work.ensures.number m c.args.assembly.now r e header route channels gathered governs in
    let same = refused-is c.from_residual.result c.in_err-work.field-0.0 c.from_residual.ensures.0 c.from_residual.ensures.1 in
    subst (λ (d : Done). Handled r m s d s) (ap done_of (sym same))
    (handled-refused r (ap over_limit sums ∙ c.requires) m s (refusal_number c.in_err-work.field-0.0) (refusal-some c.in_err-work.field-0.0) number)

pub returns : goal.returns
returns c m r e header route channels gathered sums governs =
    let s : Slices = slices c.args.rows.now c.args.levels.now c.args.assembly.now in
    let s₁ : Slices = slices c.carry_out.new.rows c.carry_out.new.levels c.args.assembly.now in
    let number = c.in_ok-work.ensures.number m c.args.assembly.now r e header route channels gathered governs in
    handled r (ap over_limit sums ∙ c.requires) m s (sym number) c.carry_out.new.assembly (done_of c.carry_out.result) s₁
    (rw (governs, ← gathered) at (c.carry_out.ensures.taken m e))
    (rw (governs, ← gathered, ← sums) at (c.carry_out.ensures.concluded m c.args.assembly.now e))
