use Rattle.std.proofs.Common.{◌≡◌, ◌+◌, length, drop}
use Rattle.tags.specs.Layout.{mapping_of}
use Rattle.tags.specs.Levels.{count_sum, mapped_sum, put_subsets}
use Rattle.tags.proofs.Dimmer.write_subsets.Given as goal

-- `tags::levels::Dimmer::write_subsets` meets its contract. The loop's invariant: what is left to do from here, with the subsets and the
-- octets left, gives what was to be done in all; and so do the two sums.
abbrev pub invariant-loop-j : goal.invariant-loop-j
invariant-loop-j l =
    (length l.rest ≡ count_sum (drop l.j (mapping_of l.self).subsets))
    × (l.written + mapped_sum (drop l.j (mapping_of l.self).subsets) ≡ mapped_sum (mapping_of l.self).subsets)
    × (put_subsets l.mode (drop l.j (mapping_of l.self).subsets) l.rest l.levels
    ≡ put_subsets l.mode (mapping_of l.self).subsets l.octets l.initial.levels)
