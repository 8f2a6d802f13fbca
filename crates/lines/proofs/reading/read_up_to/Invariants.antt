-- The loop of `lines::reading::read_up_to`: what was read so far stands behind the octets that were there.
use Rattle.std.proofs.Common.{◌-◌, ◌≤◌, max, vec_len, vec_capacity}
use Rattle.lines.specs.Reading.{Gained}
use Rattle.lines.proofs.reading.read_up_to.Given as goal

abbrev pub invariant-loop-input : goal.invariant-loop-input
invariant-loop-input g l = record {
  grown : Gained (g.R.Read.remaining l.initial.input) (g.R.Read.remaining l.input) l.initial.octets.items l.octets.items;
  bound : vec_len l.octets ≤ max l.size (vec_len l.initial.octets);
  room : vec_capacity l.initial.octets ≤ vec_capacity l.octets;
}

abbrev pub decreases-loop-input : goal.decreases-loop-input
decreases-loop-input g l = l.size - vec_len l.octets
