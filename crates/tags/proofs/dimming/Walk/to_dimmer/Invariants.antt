use Rattle.std.proofs.Common.{◌≡◌, map, take}
use Rattle.tags.specs.Limits.{subset_limit}
use Rattle.tags.specs.Dimmer.{base_of, count_of}
use Rattle.tags.specs.Layout.{padded}
use Rattle.tags.specs.DimmerView.{subset_number}
use Rattle.tags.proofs.dimming.Walk.to_dimmer.Given as goal

-- `tags::dimming::Walk::to_dimmer` meets its contract. The loop's invariant: the first i subsets are stored.
abbrev pub invariant-loop-i : goal.invariant-loop-i
invariant-loop-i l =
    (l.bases ≡ padded subset_limit (map base_of (map subset_number (take l.i l.subset-items))))
    × (l.counts ≡ padded subset_limit (map count_of (map subset_number (take l.i l.subset-items))))
