-- Laws about a receiver newly started.
use mathlib.Core.Path.{◌≡◌, refl, sym, ap, subst, ◌∙◌}
use mathlib.Core.List.{List, [], ◌∷◌}
use Prim.Native.Nat.{ℕ, zero, suc}
use mathlib.Core.Bool.{Bool, true, false, cond}
use lib.ListN.{length, get_or, replicate, length-replicate}
use lib.Dec.{ltb}
use Rattle.tags.specs.Kept.{sizes_fit}
use Rattle.receiver.specs.Modes.{channel_count}
use Rattle.receiver.specs.Governing.{closed, meant}
use Rattle.receiver.specs.Meters.{Sums, sums, over_limit}
use Rattle.receiver.specs.Effects.{bare_reply}
use Rattle.receiver.specs.LookBack.{starting_sums}
use Rattle.receiver.specs.Contract.{outcome, start_number, sums_in, Started}
use Rattle.receiver.specs.Record.{record_in, record_size, size_place, colours_place, config_at, area_at, channels_of, configuration_of, consistent_at, consistent_up_to, consistent}
use Rattle.receiver.specs.Steps.{meters_by, gathered_by, no_gathered, fresh_channels, fresh}
use Rattle.receiver.specs.declared.Readings.{Readings}
use Rattle.receiver.specs.declared.Reply.{Reply}
use Rattle.receiver.proofs.RecordLaws.{configuration_closed}

get_or-replicate_default {ℓ} : {A : Type ℓ} (n c : ℕ) (a : A) → get_or (replicate n a) c a ≡ a
get_or-replicate_default zero c a = refl
get_or-replicate_default (suc n) zero a = refl
get_or-replicate_default (suc n) (suc c) a = get_or-replicate_default n c a

-- every octet is 0, so every channel is closed
pub length-fresh : length fresh_channels ≡ record_size
unfolding fresh_channels
length-fresh = length-replicate {A = ℕ} record_size 0

fresh-octet : (p : ℕ) → get_or fresh_channels p 0 ≡ 0
unfolding fresh_channels
fresh-octet p = get_or-replicate_default record_size p 0

pub channels-fresh : (s : Sums) (c : ℕ) → channels_of (fresh s) c ≡ meant closed
channels-fresh s c = go (ltb c channel_count)
  where
    go : (b : Bool) → cond b (configuration_of (config_at (fresh s) c) (area_at (fresh s) c)) (meant closed) ≡ meant closed
    go true = configuration_closed (config_at (fresh s) c) (area_at (fresh s) c) (fresh-octet c)
    go false = refl

-- and it is consistent where the readings are within the limit
consistent_up_to-fresh : (n : ℕ) → consistent_up_to fresh_channels n ≡ true
unfolding consistent_up_to consistent_at sizes_fit
consistent_up_to-fresh zero = refl
consistent_up_to-fresh (suc n) =
    rw (consistent_up_to-fresh n, fresh-octet n, fresh-octet (size_place n), fresh-octet (colours_place n))

pub consistent-fresh : (s : Sums) → over_limit s ≡ false → consistent (fresh s) ≡ true
unfolding consistent
consistent-fresh s e = rw (length-fresh, e, consistent_up_to-fresh channel_count)

-- readings that start sets are within their limit
pub starting_within : (s : Sums) → over_limit (starting_sums s) ≡ false
starting_within s = go (over_limit s) refl
  where
    go : (b : Bool) → over_limit s ≡ b → over_limit (cond b (sums 0 0 0) s) ≡ false
    go true e = refl
    go false e = e

-- so it is what start promises
pub started-fresh : (s : Sums) → Started s (outcome (fresh (starting_sums s)) (bare_reply (start_number s)))
started-fresh s =
    record {
      reply = refl;
      meters = refl;
      channels = channels-fresh (starting_sums s);
      gathering = λ a. refl;
      sound = consistent-fresh (starting_sums s) (starting_within s);
    }

-- by its parts: the readings that start sets, the arrays with them, and the reply
pub started_with : (q first : Readings) (meters gathered channels : List ℕ) (reply : Reply) → sums_in first ≡ starting_sums (sums_in q)
    → meters ≡ meters_by first → gathered ≡ gathered_by no_gathered → channels ≡ fresh_channels → reply ≡ bare_reply (start_number (sums_in q))
    → Started (sums_in q) (outcome (record_in channels meters gathered) reply)
started_with q first meters gathered channels reply f m g c r =
    let sums_are = m ∙ ap (λ (x : Sums). x.lit_time ∷ x.points ∷ x.lit_points ∷ []) f in
    subst (Started (sums_in q)) (λ i. outcome (record_in (sym c i) (sym sums_are i) (sym g i)) (sym r i)) (started-fresh (sums_in q))
