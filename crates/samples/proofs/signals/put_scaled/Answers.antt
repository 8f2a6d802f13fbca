-- `put_scaled`: the signals that the loop has passed are stored, and joined.
use native.Mathlib.Omega.{arith}
use mathlib.Core.Path.{◌≡◌, refl, ◌∙◌, ap}
use lib.IntN.{pos}
use lib.ListN.{length, length-set}
use mir.Syntax.{w32}
use mir.ValLaws.{to_z_pos}
use Rattle.samples.specs.declared.signals.Signal.{Signal}
use Rattle.samples.specs.Signals.{signal_at, scaled_in}
use Rattle.samples.proofs.SignalLaws.{stored_more, lit-more}
use Rattle.samples.proofs.signals.put_scaled.Goals as goal

pub loop-signal-preserved : goal.loop-signal-preserved
loop-signal-preserved c =
    let x = signal_at c.args.list.now c.loop-signal.signal-index in
    let e = c.requires.2 c.loop-signal.signal-index c.loop-signal-test.true in (
      simp length-set c.loop-signal.invariant.0,
      rw c.from.ensures (stored_more (λ (y : Signal). pos (scaled_in c.args.shift c.args.sample.now y)) c.args.list.now c.args.row.now c.loop-signal.signal-index c.loop-signal.row x _ c.loop-signal.invariant.0 refl e.0
          (to_z_pos w32 c.scaled-value.result (omega (arith, c.scaled-value.ensures.fits)) ∙ ap pos c.scaled-value.ensures.value) c.loop-signal.invariant.1),
      lit-more c.loop-signal.joined (scaled_in c.args.shift c.args.sample.now) c.args.list.now c.loop-signal.signal-index c.scaled-value.result x refl c.scaled-value.ensures.value c.loop-signal.invariant.2,
    )

pub returns-clause-stored : goal.returns-clause-stored
returns-clause-stored c = let e : c.loop-signal.signal-index ≡ length c.args.list.now = omega arith in
    rw e at c.loop-signal.invariant.1
