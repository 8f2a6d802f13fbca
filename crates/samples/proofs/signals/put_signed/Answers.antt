-- `put_signed`: the signals that the loop has passed are stored.
use native.Mathlib.Omega.{arith}
use mathlib.Core.Path.{◌≡◌, refl, ◌∙◌}
use lib.ListN.{length, length-set}
use mir.Syntax.{w32}
use mir.ValLaws.{to_z-of_z}
use borrow.Author.Rules.{rules}
use Rattle.samples.specs.Signals.{signal_at, signed_in}
use Rattle.samples.proofs.SignalLaws.{stored_more}
use Rattle.samples.proofs.signals.put_signed.Goals as goal

pub loop-signal-preserved : goal.loop-signal-preserved
loop-signal-preserved c =
    let x = signal_at c.args.list.now c.loop-signal.signal-index in
    let e = c.requires.1 c.loop-signal.signal-index c.loop-signal-test.true in (
      simp length-set c.loop-signal.invariant.0,
      rw c.from.ensures (stored_more (signed_in c.args.sample.now) c.args.list.now c.args.row.now c.loop-signal.signal-index c.loop-signal.row x _ c.loop-signal.invariant.0 refl e.0
          (to_z-of_z w32 c.signed.result (search rules) ∙ c.signed.ensures) c.loop-signal.invariant.1),
    )

pub returns : goal.returns
returns c = let e : c.loop-signal.signal-index ≡ length c.args.list.now = omega arith in
    rw e at c.loop-signal.invariant.1
