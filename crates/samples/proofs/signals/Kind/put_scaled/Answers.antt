use lib.IntN.{pos}
use Rattle.samples.specs.declared.signals.Signal.{Signal}
use Rattle.samples.specs.Signals.{scaled_in}
use Rattle.samples.proofs.SignalLaws.{both_stored, none_lit_in}
use Rattle.samples.proofs.signals.Kind.put_scaled.Goals as goal

pub returns-clause-stored : goal.returns-clause-stored
returns-clause-stored c =
    both_stored c.args.self.now _ _ c.as_slice.ensures.value c.as_slice-2.ensures.value
    (λ (x : Signal). pos (scaled_in c.args.shift c.args.sample.now x)) c.args.row.now _ _ c.put_scaled.ensures.stored c.put_scaled-2.ensures.stored

pub returns-clause-dark : goal.returns-clause-dark
returns-clause-dark c =
    none_lit_in c.args.self.now _ _ c.as_slice.ensures.value c.as_slice-2.ensures.value
    (scaled_in c.args.shift c.args.sample.now) _ _ c.put_scaled.ensures.dark c.put_scaled-2.ensures.dark
