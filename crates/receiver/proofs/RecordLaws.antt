-- Laws about the readings of the record.
use mathlib.Core.Path.{◌≡◌, refl}
use Prim.Native.Nat.{ℕ, zero, suc, ◌<◌, ◌≤◌}
use mathlib.Core.Bool.{Bool, true, false}
use mathlib.Core.List.{List}
use native.Mathlib.Omega.{arith}
use borrow.Author.Tests.{lt-ltb}
use Rattle.tags.specs.ChoiceLaws.{and_right}
use Rattle.tags.specs.Kept.{sample_in, mapping_in, sizes_fit}
use Rattle.receiver.specs.Modes.{graphic_mode, dimmer_mode, known_mode, channel_count}
use Rattle.receiver.specs.Governing.{closed, meant}
use Rattle.receiver.specs.Checks.{held_elsewhere}
use Rattle.receiver.specs.Record.{mode_in, config_at, area_at, channels_of, configuration_of, consistent_at, Config}
use Rattle.receiver.specs.Steps.{held_states, closed_by}
use Rattle.receiver.specs.declared.Receiver.{Receiver}

-- ---- what a configuration means, by its state

module _ (k : Config) (area : List ℕ) where
  -- the mode is the state less 1, also where the channel is closed
  pub configuration_mode : (configuration_of k area).mode ≡ mode_in k.state
  unfolding configuration_of
  configuration_mode = refl

  pub graphic_sample : graphic_mode (mode_in k.state) ≡ true → (configuration_of k area).sample ≡ sample_in k.size k.colours area
  unfolding configuration_of
  graphic_sample g = rw g

  pub dimming_mapping : dimmer_mode (mode_in k.state) ≡ true → (configuration_of k area).mapping ≡ mapping_in k.size area
  unfolding configuration_of
  dimming_mapping g = rw g

  -- what a channel held before it is closed no longer governs
  pub configuration_closed : k.state ≡ 0 → configuration_of k area ≡ meant closed
  unfolding configuration_of meant
  configuration_closed e = rw e

-- what governs a channel is read off what the record holds of it
pub channels_of-below : (r : Receiver) (c : ℕ) → c < channel_count → channels_of r c ≡ configuration_of (config_at r c) (area_at r c)
channels_of-below r c h = rw (lt-ltb c channel_count h)

-- ---- check 15, read off the states

pub held_elsewhere-states : (r : Receiver) (mode c n : ℕ) → n ≤ channel_count
    → held_elsewhere (channels_of r) mode c n ≡ held_states r.channels mode c n
unfolding held_elsewhere held_states configuration_of
held_elsewhere-states r mode c zero h = refl
held_elsewhere-states r mode c (suc n) h = rw (held_elsewhere-states r mode c n (omega arith), lt-ltb n channel_count (omega arith))

-- ---- check 1

-- a channel that is closed stays consistent
pub consistent-closed : (closing : Bool) (k : Config) → consistent_at k ≡ true → consistent_at (closed_by closing k) ≡ true
unfolding consistent_at
consistent-closed true k e = and_right (known_mode (mode_in k.state)) (sizes_fit k.size k.colours) e
consistent-closed false k e = e
