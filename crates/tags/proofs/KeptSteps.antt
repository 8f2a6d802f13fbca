-- What the loop that reads words needs.
use Rattle.std.proofs.Math.Seq.{take-suc-set}
use Rattle.std.proofs.lemmas.List.{length-replicate, take_all}

pub ruleset words = (take-suc-set, length-replicate, take_all)
