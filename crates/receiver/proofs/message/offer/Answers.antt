-- `receiver::message::offer` meets its contract: a record that check 1 refuses is left alone.
use mathlib.Core.Path.{sym, ◌∙◌}
use Rattle.receiver.specs.Slices.{slices}
use Rattle.receiver.specs.Record.{record_in}
use Rattle.receiver.proofs.RefusalLaws.{answered_inconsistent}
use Rattle.receiver.proofs.message.offer.Goals as goal

pub returns-then-not-is_sound : goal.returns-then-not-is_sound
returns-then-not-is_sound c =
    answered_inconsistent (record_in c.args.channels.now c.args.meters.now c.args.gathered.now) c.args.octets.now (slices c.args.rows.now c.args.levels.now c.args.assembly.now) c.into.result
    (sym (c.is_sound.ensures c.args.gathered.now c.told-gathered) ∙ c.if-not-is_sound.true) c.into.ensures
