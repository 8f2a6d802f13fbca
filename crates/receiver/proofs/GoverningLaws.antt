-- What governs a message, by what is read of it: what it brings itself, or what its channel holds.
use mathlib.Core.Path.{◌≡◌, sym}
use Prim.Native.Nat.{ℕ, ◌<◌}
use mathlib.Core.Bool.{true, false}
use mathlib.Core.List.{List}
use Rattle.std.proofs.Common.{Some, None}
use Rattle.receiver.specs.Message.{channel_of, routes}
use Rattle.receiver.specs.Modes.{channel_count}
use Rattle.receiver.specs.Governing.{Configuration, routed_to, meant}
use Rattle.receiver.specs.Checks.{routing_number, route_number, governs}
use Rattle.receiver.specs.Record.{config_in, area_in, configuration_of, channels_of, consistent_at, consistent_up_to}
use Rattle.receiver.specs.Views.{RoutingAs, ReadAs}
use Rattle.receiver.specs.declared.Receiver.{Receiver}
use Rattle.receiver.specs.declared.incoming.Message.{Message}
use Rattle.receiver.specs.declared.incoming.Routing.{Routing}
use Rattle.receiver.proofs.CheckLaws.{channel-below}
use Rattle.receiver.proofs.RecordLaws.{channels_of-below}
use Rattle.receiver.proofs.SettleLaws.{consistent-each}

module _ (m : List ℕ) (x : Message) (read : ReadAs m x) where
  -- with Routing
  module _ (r : Routing) (e : x.routing ≡ Some r) where
    read-routes : routes m ≡ true
    read-routes = let h = read.routes in sym (rw e at h)

    read-routing : RoutingAs m r
    read-routing = let h = read.routing in rw e at h

    pub routed-number : routing_number r.mode r.service.0 r.tags.now ≡ route_number m
    unfolding route_number
    routed-number = let b = read-routing in rw (read-routes, b.mode, b.service, b.tags)

    pub routed-governs : (g : ℕ → Configuration) → meant (routed_to r.mode r.service.0 r.match_bits r.tags.now) ≡ governs m g
    unfolding governs
    routed-governs g = let b = read-routing in rw (read-routes, b.mode, b.service, b.match, b.tags)

  -- without
  module _ (e : x.routing ≡ None) where
    read-held : routes m ≡ false
    read-held = let h = read.routes in sym (rw e at h)

    pub held-number : 0 ≡ route_number m
    unfolding route_number
    held-number = rw read-held

    pub held-governs : (r : Receiver) → configuration_of (config_in r.channels x.channel.0) (area_in r.channels x.channel.0) ≡ governs m (channels_of r)
    unfolding governs
    held-governs r = rw (read-held, read.channel) (sym (channels_of-below r (channel_of m) (channel-below m)))

pub sound-each : (channels : List ℕ) → consistent_up_to channels channel_count ≡ true → (c : ℕ) → c < channel_count → consistent_at (config_in channels c) ≡ true
sound-each channels = consistent-each channels channel_count

pub ruleset governing_laws = (routed-number, routed-governs, held-number, held-governs, sound-each)
