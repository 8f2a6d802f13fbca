use Rattle.std.proofs.Common.{◌≡◌, ◌&&◌, drop}
use Rattle.tags.specs.Dimmer.{all_in_range, mapping_in_range}
use Rattle.tags.specs.Layout.{mapping_of}
use Rattle.tags.proofs.Dimmer.is_in_range.Given as goal

-- `tags::levels::Dimmer::is_in_range` meets its contract. The loop's invariant: the flag with the subsets left is the test of all.
abbrev pub invariant-loop-j : goal.invariant-loop-j
invariant-loop-j l = l.in_range && all_in_range (drop l.j (mapping_of l.self).subsets) ≡ mapping_in_range (mapping_of l.self)
