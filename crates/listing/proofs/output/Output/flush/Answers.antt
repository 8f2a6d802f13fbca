-- `Output::flush` leaves an output as it is where a write has failed.
use Rattle.std.proofs.Common.{refl}
use Rattle.listing.proofs.ProgressLaws.{put_none}
use Rattle.listing.proofs.output.Output.flush.Goals as goal

pub returns-else-is_ok-clause-put : goal.returns-else-is_ok-clause-put
returns-else-is_ok-clause-put g c = put_none g.W.Write.contents c.args.self.now _ (record { to = refl; text = refl; end = refl; written = refl; told = refl })
