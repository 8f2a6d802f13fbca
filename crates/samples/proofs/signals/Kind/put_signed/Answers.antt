use Rattle.samples.specs.Signals.{signed_in}
use Rattle.samples.proofs.SignalLaws.{both_stored}
use Rattle.samples.proofs.signals.Kind.put_signed.Goals as goal

pub returns : goal.returns
returns c =
    both_stored c.args.self.now _ _ c.as_slice.ensures.value c.as_slice-2.ensures.value
    (signed_in c.args.sample.now) c.args.row.now _ _ c.put_signed.ensures c.put_signed-2.ensures
