use Prim.Native.Nat.{◌-◌, ◌≤◌}
use mathlib.Core.Path.{◌≡◌}
use Rattle.samples.specs.Signals.{Gathered}
use Rattle.samples.proofs.signals.Kind.gather.Given as goal

-- `gather`: the loop goes through the slots, and adds each to one of the lists or to none.
abbrev pub invariant-loop-slot : goal.invariant-loop-slot
invariant-loop-slot l =
    (l.fn.slots.start ≤ l.slot-iterator.start) × (l.slot-iterator.start ≤ l.fn.slots.end) × (l.slot-iterator.end ≡ l.fn.slots.end)
    × Gathered l.places.table l.places.width l.waves l.fn.slots.start (l.fn.slots.end - l.fn.slots.start) (l.slot-iterator.start - l.fn.slots.start) (record { fine = l.fine; coarse = l.coarse })
