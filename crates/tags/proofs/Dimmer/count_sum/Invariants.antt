use Rattle.std.proofs.Common.{◌≡◌, ◌+◌, ◌*◌, ◌≤◌, drop}
use Rattle.tags.specs.Layout.{mapping_of}
use Rattle.tags.specs.Levels.{count_sum}
use Rattle.tags.proofs.Dimmer.count_sum.Given as goal

-- `tags::levels::Dimmer::count_sum` meets its contract. The loop's invariant: the sum so far with the counts left is the sum of all.
abbrev pub invariant-loop-j : goal.invariant-loop-j
invariant-loop-j l =
    (l.sum ≤ 255 * l.j) × (l.sum + count_sum (drop l.j (mapping_of l.self).subsets) ≡ count_sum (mapping_of l.self).subsets)
