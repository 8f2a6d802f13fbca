-- Laws about what a message asks for: a refusal's number, the checks on the message in their order, and its whole.
use mathlib.Core.Path.{◌≡◌, ap, ◌∙◌}
use Prim.Native.Nat.{ℕ}
use mathlib.Core.Bool.{Bool, true, false, cond, not, ◌&&◌, ◌||◌}
use mathlib.Core.List.{List}
use native.Mathlib.Nat.{add-sub_cancel}
use native.Mathlib.Omega.{arith}
use lib.Dec.{eqb}
use lib.ListN.{length}
use Rattle.std.specs.Prelude.{Some, None}
use Rattle.tags.specs.Choice.{refuse, first}
use Rattle.receiver.specs.Message.{channel_of, type_of, sequel_type, routes, data_of}
use Rattle.receiver.specs.Modes.{void_mode, channel_count}
use Rattle.receiver.specs.Governing.{Configuration, meant}
use Rattle.receiver.specs.Chunk.{chunk, is_fragment}
use Rattle.receiver.specs.Gathering.{end_in}
use Rattle.receiver.specs.Checks.{header_number, route_number, governs, holder_number, closed_number, sequel_number, type_fits, wrong_data, mismatched, match_number, room_number, in_order, own_number}
use Rattle.receiver.specs.Record.{channels_of, gathering_in, gathered_in, standing_of, configuration_of}
use Rattle.receiver.specs.Steps.{held_states, whole_in}
use Rattle.receiver.specs.Kinds.{mode_number, type_number}
use Rattle.receiver.specs.Views.{ReadAs, meaning}
use Rattle.receiver.specs.Works.{WorkOf, end_behind}
use Rattle.receiver.specs.declared.Receiver.{Receiver}
use Rattle.receiver.specs.declared.gather.Gathered.{Gathered}
use Rattle.receiver.specs.declared.governing.Governing as governing
use Rattle.receiver.specs.declared.modes.Mode.{Mode}
use Rattle.receiver.specs.declared.modes.Mode.TheVariants.{Void}
use Rattle.receiver.specs.declared.incoming.Message.{Message}
use Rattle.receiver.specs.declared.work.Work.TheVariants.{Nothing}
use Rattle.receiver.proofs.CheckLaws.{first_assoc, first-none}
use Rattle.receiver.proofs.JudgeLaws.{holder-states}

-- a check that passes leaves the number to those behind it
pub first-passed : (x n k : ℕ) → 0 ≡ n → x ≡ k → x ≡ first n k
first-passed x n k p q = rw (← p) q

-- a mode other than 0
other-mode : (mode : Mode) → (mode ≡ Void → ⊥) → eqb (mode_number mode) 0 ≡ false
other-mode mode h = grind arith

-- check 15, by the mode that governs a message
pub holders : (m : List ℕ) (r : Receiver) → holder_number m (channels_of r)
    ≡ refuse (routes m && (eqb (governs m (channels_of r)).mode 1 && held_states r.channels 1 (channel_of m) channel_count)) 15
unfolding governs meant
holders m r = grind (arith, holder-states)

-- check 16 too
closed-by : (m : List ℕ) (r : Receiver) → closed_number m (channels_of r) ≡ refuse (not (governs m (channels_of r)).is_open) 16
unfolding closed_number governs meant
closed-by m r = grind arith

-- checks 17 to 19 one by one, of which a sequel passes each
spread : (o s f : Bool) (y z n : ℕ) → o ≡ false → first (cond (o || s) 0 (first (refuse (not f) 17) (first y z))) n
    ≡ first (refuse (not (o || s || f)) 17) (first (cond s 0 y) (first (cond s 0 z) n))
spread o s f y z n e = grind (arith, first_assoc)

-- nothing is asked for in mode 0
pub void-nothing : (t : ℕ) (v : Configuration) → v.mode ≡ 0 → WorkOf Nothing t v
void-nothing t v e = record { drawing = grind arith; dimming = grind arith; fragment = grind arith }

-- ---- what governs, where the channel is open

module _ (g : governing.Governing) (mode : Mode) (opened : g.mode ≡ Some mode) where
  pub meaning-mode : (meaning g).mode ≡ mode_number mode
  unfolding configuration_of
  meaning-mode = rw opened (add-sub_cancel (mode_number mode) 1)

  pub meaning-other : (mode ≡ Void → ⊥) → eqb (meaning g).mode 0 ≡ false
  meaning-other differs = ap (λ (k : ℕ). eqb k 0) meaning-mode ∙ other-mode mode differs

  meaning-open : (meaning g).is_open ≡ true
  unfolding configuration_of
  meaning-open = grind arith

  pub meaning-match : (meaning g).match ≡ g.match_bits
  unfolding configuration_of
  meaning-match = grind arith

-- ---- the message's own number, by what governs it

module _ (m a : List ℕ) (r : Receiver) (g : governing.Governing) (n : ℕ) (header : header_number m ≡ 0) (route : route_number m ≡ 0)
    (governed : meaning g ≡ governs m (channels_of r)) where
  pub own-closed : g.mode ≡ None → own_number m n (standing_of r a) ≡ 16
  unfolding in_order configuration_of
  own-closed e = rw (header, route, closed-by m r, ← governed, e)

  module _ (mode : Mode) (opened : g.mode ≡ Some mode) where
    passes_closed : closed_number m (channels_of r) ≡ 0
    passes_closed = rw (closed-by m r, ← governed) (ap (λ (b : Bool). refuse (not b) 16) (meaning-open g mode opened))

    -- mode 0 passes all behind 16 by
    pub own-void : mode_number mode ≡ 0 → own_number m n (standing_of r a) ≡ 0
    unfolding in_order sequel_number match_number room_number
    own-void e = rw (header, route, passes_closed, holders m r, ← governed, meaning-mode g mode opened, e) (grind arith)

    -- in the others 17, 18 and 19 are tried one by one
    pub own-open : (x : Message) (q : Gathered) → ReadAs m x → gathered_in r.gathered ≡ q → eqb (meaning g).mode 0 ≡ false
        → own_number m n (standing_of r a)
        ≡ first (sequel_number m (meaning g) (gathering_in q a))
        (first (refuse (not (void_mode (meaning g).mode || sequel_type (type_number x.chunk.chunk_type) || type_fits (chunk (type_number x.chunk.chunk_type) x.chunk.section.now) (meaning g))) 17)
        (first (cond (sequel_type (type_number x.chunk.chunk_type)) 0 (refuse (wrong_data (type_number x.chunk.chunk_type) (length x.chunk.section.now)) 18))
        (first (cond (sequel_type (type_number x.chunk.chunk_type)) 0 (refuse (mismatched (chunk (type_number x.chunk.chunk_type) x.chunk.section.now) (meaning g)) 19))
        (first (holder_number m (channels_of r))
        (room_number m (meaning g) (gathering_in q a) n)))))
    unfolding in_order match_number
    own-open x q read gathered e =
        rw (header, route, passes_closed, ← governed, read.chunk_type, read.section, ← gathered, first-none)
        (ap (first (sequel_number m (meaning g) (gathering_in (gathered_in r.gathered) a)))
        (spread (void_mode (meaning g).mode) (sequel_type (type_of m)) (type_fits (chunk (type_of m) (data_of m)) (meaning g)) _ _ _ e))

-- ---- a message as it is read, and what it asks for

module _ (m : List ℕ) (x : Message) (read : ReadAs m x) where
  -- where its octets end in the assembly slice
  pub end-read : (q : Gathered) (a : List ℕ) → end_in m (gathering_in q a) ≡ end_behind q x
  end-read q a = rw (← read.chunk_type, ← read.section)

  module _ (v : Configuration) (frame : List ℕ) where
    -- its whole is its own chunk, or the frame where it is the last fragment
    pub whole-own : (x.last && is_fragment (type_number x.chunk.chunk_type) v) ≡ false → whole_in m v frame ≡ chunk (type_number x.chunk.chunk_type) x.chunk.section.now
    whole-own e = rw (← read.last, ← read.chunk_type, e, read.section)

    pub whole-frame : x.last ≡ true → is_fragment (type_number x.chunk.chunk_type) v ≡ true → whole_in m v frame ≡ chunk 2 frame
    whole-frame e f = rw (← read.last, ← read.chunk_type, e, f)
