-- The loop of `Input::count_rest`: what was given so far, and the count of it with what waited before.
use Rattle.std.proofs.Common.{ℕ, ◌-◌, ◌≡◌, List, length}
use Rattle.std.specs.Io.KnownBytes.{Consumes}
use Rattle.lines.specs.Reading.{largest, counted_of}
use Rattle.listing.specs.Waiting.{waiting_in}
use Rattle.listing.proofs.input.Input.count_rest.Given as goal

abbrev pub invariant-loop-came : goal.invariant-loop-came
invariant-loop-came g l =
    (octets : List ℕ) × Consumes (g.R.Read.remaining l.fn.self.from) (g.R.Read.remaining l.self.from) octets × (l.count ≡ counted_of (length (waiting_in l.fn.self)) (length octets))

abbrev pub decreases-loop-came : goal.decreases-loop-came
decreases-loop-came g l = largest - l.count
