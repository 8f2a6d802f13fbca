-- `receiver::Receiver::start` meets its contract: the record is a fresh one.
use mathlib.Core.Path.{refl}
use Rattle.receiver.specs.Steps.{fresh_channels}
use Rattle.receiver.proofs.FreshLaws.{started_with}
use Rattle.receiver.proofs.Receiver.start.Goals as goal

pub returns : goal.returns
unfolding fresh_channels
returns c =
    started_with (record { lit_time = c.args.lit_time; points = c.args.points; lit_points = c.args.lit_points }) c.starting.result _ _ _ _
    c.starting.ensures c.into.ensures refl refl c.start_reply.ensures
