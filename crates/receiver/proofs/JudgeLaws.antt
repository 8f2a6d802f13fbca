-- Laws about judging a message: what governs it, and its number by the first check that refuses.
use mathlib.Core.Path.{◌≡◌}
use Prim.Native.Nat.{ℕ}
use mathlib.Core.Bool.{true, false, not, ◌&&◌}
use mathlib.Core.List.{List}
use native.Mathlib.Nat.{le_refl}
use borrow.Author.Tests.{not-true}
use Rattle.tags.specs.Choice.{refuse}
use Rattle.tags.specs.ChoiceLaws.{and_left, and_right}
use Rattle.receiver.specs.Message.{channel_of, routes, mode_of}
use Rattle.receiver.specs.Modes.{exclusive_mode, channel_count}
use Rattle.receiver.specs.Meters.{over_limit}
use Rattle.receiver.specs.Checks.{holder_number}
use Rattle.receiver.specs.Record.{channels_of, sums_of, consistent_up_to, sized, consistent}
use Rattle.receiver.specs.Steps.{held_states}
use Rattle.receiver.specs.declared.Receiver.{Receiver}
use Rattle.receiver.proofs.RecordLaws.{held_elsewhere-states}

-- ---- a consistent record

module _ (r : Receiver) (e : consistent r ≡ true) where
  within : (not (over_limit (sums_of r)) && consistent_up_to r.channels channel_count) ≡ true
  unfolding consistent
  within = and_right (sized r) (not (over_limit (sums_of r)) && consistent_up_to r.channels channel_count) e

  pub consistent-limit : over_limit (sums_of r) ≡ false
  consistent-limit = not-true (over_limit (sums_of r)) (and_left (not (over_limit (sums_of r))) (consistent_up_to r.channels channel_count) within)

  pub consistent-channels : consistent_up_to r.channels channel_count ≡ true
  consistent-channels = and_right (not (over_limit (sums_of r))) (consistent_up_to r.channels channel_count) within

-- check 15, read off the record
pub holder-states : (r : Receiver) (m : List ℕ) → holder_number m (channels_of r)
    ≡ refuse (routes m && (exclusive_mode (mode_of m) && held_states r.channels (mode_of m) (channel_of m) channel_count)) 15
unfolding holder_number
holder-states r m = rw (held_elsewhere-states r (mode_of m) (channel_of m) channel_count (le_refl channel_count))
