-- Laws about the channels after a message: what the settled octets of a record say of each channel is what the definition says, and they
-- are consistent.
use mathlib.Core.Path.{◌≡◌, refl, ap, ◌∙◌}
use Prim.Native.Nat.{ℕ}
use mathlib.Core.Bool.{Bool, true, false, cond, ◌&&◌, ◌||◌}
use mathlib.Core.List.{List}
use lib.ListN.{length, set}
use lib.Dec.{eqb}
use borrow.Author.Tests.{eqb-true}
use Rattle.tags.specs.Kept.{area_size}
use Rattle.receiver.specs.Message.{channel_of, routes, closes}
use Rattle.receiver.specs.Modes.{channel_count}
use Rattle.receiver.specs.Governing.{Configuration, closed, meant}
use Rattle.receiver.specs.Checks.{governs}
use Rattle.receiver.specs.Effects.{governing_after}
use Rattle.receiver.specs.Record.{record_in, record_size, config_in, area_in, channels_of, configuration_of, consistent_at, consistent_up_to, Config}
use Rattle.receiver.specs.Steps.{stored_in, closed_by, settled_in}
use Rattle.receiver.specs.declared.Receiver.{Receiver}
use Rattle.receiver.proofs.CheckLaws.{channel-below}
use Rattle.receiver.proofs.RecordLaws.{configuration_closed, consistent-closed}
use Rattle.receiver.proofs.SettleLaws.{config-stored, area-stored, config-shut, area-shut, channels-changed, consistent-each, consistent-changed}

module _ (r : Receiver) (long : length r.channels ≡ record_size) (m : List ℕ) where
  abbrev i : ℕ
  i = channel_of m

  -- ---- what governs each channel

  module _ (meters gathered : List ℕ) where
    -- the record with other octets; nothing else of it says what governs
    abbrev holding : List ℕ → Receiver
    holding channels = record_in channels meters gathered

    shut_governs : (c : ℕ) → channels_of (holding (set r.channels i 0)) c ≡ cond (eqb c i) (meant closed) (channels_of r c)
    shut_governs =
        channels-changed r (holding (set r.channels i 0)) i (channel-below m) (meant closed)
        (λ c below.
        (λ j. configuration_of (config-shut r.channels long i (channel-below m) c below j) (area-shut r.channels long i (channel-below m) c j))
        ∙ go c (eqb c i))
      where
        go : (c : ℕ) (b : Bool)
            → configuration_of (cond b (closed_by true (config_in r.channels i)) (config_in r.channels c)) (area_in r.channels c)
            ≡ cond b (meant closed) (configuration_of (config_in r.channels c) (area_in r.channels c))
        go c true = configuration_closed (closed_by true (config_in r.channels i)) (area_in r.channels c) refl
        go c false = refl

    module _ (k : Config) (area : List ℕ) (w : length area ≡ area_size) where
      stored_governs : (closing : Bool) (c : ℕ)
          → channels_of (holding (stored_in r.channels i (closed_by closing k) area)) c
          ≡ cond (eqb c i) (configuration_of (closed_by closing k) area) (channels_of r c)
      stored_governs closing =
          channels-changed r (holding (stored_in r.channels i (closed_by closing k) area)) i (channel-below m) (configuration_of (closed_by closing k) area)
          (λ c below.
          (λ j. configuration_of (config-stored r.channels long i (channel-below m) (closed_by closing k) area w c below j) (area-stored r.channels long i (channel-below m) (closed_by closing k) area w c below j))
          ∙ go c (eqb c i))
        where
          go : (c : ℕ) (b : Bool)
              → configuration_of (cond b (closed_by closing k) (config_in r.channels c)) (cond b area (area_in r.channels c))
              ≡ cond b (configuration_of (closed_by closing k) area) (configuration_of (config_in r.channels c) (area_in r.channels c))
          go c true = refl
          go c false = refl

      -- an acceptance: a Routing stores what governs it, Close closes the channel, another message leaves it
      accepted-governs : configuration_of k area ≡ governs m (channels_of r) → (routing closing : Bool) → routes m ≡ routing → closes m ≡ closing
          → (c : ℕ) → channels_of (holding (settled_in 0 routing closing i k area r.channels)) c ≡ governing_after m 0 (channels_of r) c
      unfolding settled_in governing_after governs
      accepted-governs config true true e f c =
          stored_governs true c ∙ rw (e, f, configuration_closed (closed_by true k) area refl)
      accepted-governs config true false e f c =
          stored_governs false c
          ∙ rw (e, f) (ap (λ (v : Configuration). cond (eqb c i) v (channels_of r c)) (rw e at config))
      accepted-governs config false true e f c = shut_governs c ∙ rw (e, f)
      accepted-governs config false false e f c = rw (e, f)

      -- 19 closes the channel, and every other refusal leaves the channels
      pub settled_governs : (n : ℕ) → (n ≡ 0 → configuration_of k area ≡ governs m (channels_of r))
          → (c : ℕ) → channels_of (holding (settled_in n (routes m) (closes m) i k area r.channels)) c ≡ governing_after m n (channels_of r) c
      unfolding settled_in governing_after
      settled_governs n config c = by_number (eqb n 0) (eqb n 19) refl refl
        where
          by_number : (a b : Bool) → eqb n 0 ≡ a → eqb n 19 ≡ b
              → channels_of (holding (settled_in n (routes m) (closes m) i k area r.channels)) c ≡ governing_after m n (channels_of r) c
          by_number true b e q =
              let none = eqb-true n 0 e in rw none (accepted-governs (config none) (routes m) (closes m) refl refl c)
          by_number false true e q = rw (e, q) (shut_governs c)
          by_number false false e q = rw (e, q)

  -- ---- the consistency rule

  module _ (sound : consistent_up_to r.channels channel_count ≡ true) where
    shut_consistent : consistent_up_to (set r.channels i 0) channel_count ≡ true
    shut_consistent =
        consistent-changed r.channels (set r.channels i 0) i (closed_by true (config_in r.channels i))
        (config-shut r.channels long i (channel-below m)) sound
        (consistent-closed true (config_in r.channels i) (consistent-each r.channels channel_count sound i (channel-below m)))

    pub settled_consistent : (k : Config) (area : List ℕ) → length area ≡ area_size → (n : ℕ) → (n ≡ 0 → consistent_at k ≡ true)
        → consistent_up_to (settled_in n (routes m) (closes m) i k area r.channels) channel_count ≡ true
    unfolding settled_in
    settled_consistent k area w n good = by_tests (eqb n 0) (routes m) (eqb n 19) (closes m) refl
      where
        by_tests : (a routing b closing : Bool) → eqb n 0 ≡ a
            → consistent_up_to (cond (a && routing) (stored_in r.channels i (closed_by closing k) area) (cond (b || a && closing) (set r.channels i 0) r.channels)) channel_count
            ≡ true
        by_tests true true b closing e =
            consistent-changed r.channels (stored_in r.channels i (closed_by closing k) area) i (closed_by closing k)
            (config-stored r.channels long i (channel-below m) (closed_by closing k) area w) sound
            (consistent-closed closing k (good (eqb-true n 0 e)))
        by_tests true false true closing e = shut_consistent
        by_tests true false false true e = shut_consistent
        by_tests true false false false e = sound
        by_tests false routing true closing e = shut_consistent
        by_tests false routing false closing e = sound
