-- Laws about what is gathered of a frame after a list of judged messages.
use mathlib.Core.Path.{◌≡◌, refl, sym, ◌∙◌}
use Prim.Native.Nat.{ℕ, ◌+◌}
use mathlib.Core.Bool.{Bool, true, false, false≢true, cond, not, ◌&&◌, ◌||◌}
use mathlib.Core.List.{List, [], ◌∷◌, ◌++◌}
use native.Mathlib.Omega.{arith}
use lib.ListN.{length, length-append}
use lib.Dec.{eqb}
use borrow.Author.Tests.{eqb-true, eq-eqb, not-true}
use Rattle.tags.specs.ChoiceLaws.{and_left, and_right, or-false_left, or-false_right}
use Rattle.receiver.specs.Message.{channel_of, type_of, is_sequel, is_last, routes, closes, data_of}
use Rattle.receiver.specs.Governing.{Configuration, meant}
use Rattle.receiver.specs.Chunk.{fragment_type, is_fragment}
use Rattle.receiver.specs.Gathering.{Gathering, no_gathering, gathers_on, grown}
use Rattle.receiver.specs.Checks.{governs}
use Rattle.receiver.specs.Effects.{of_whole, takes, decides, decided, drops, gathering_after}
use Rattle.receiver.specs.LookBack.{Judged, lookback, channels_by, governed_by, gathering_by}

-- ---- as many octets are gathered as are counted

so_far : (w : Gathering) (own : List ℕ) (b : Bool) → w.count ≡ length w.octets
    → cond b w.count 0 + length own ≡ length (cond b w.octets [] ++ own)
so_far w own true e = rw (length-append w.octets own, e)
so_far w own false e = omega arith

pub gathering_by-count : (js : List Judged) → (gathering_by js).count ≡ length (gathering_by js).octets
unfolding gathering_by gathering_after
gathering_by-count [] = refl
gathering_by-count (j ∷ js) =
    by_cases (takes j.octets j.number (governed_by js j.octets) && not (is_last j.octets || closes j.octets))
    (drops j.octets j.number (governed_by js j.octets) (gathering_by js)) (gathering_by-count js)
  where
    by_cases : (a b : Bool) → (gathering_by js).count ≡ length (gathering_by js).octets
        → (cond a (grown j.octets (gathering_by js)) (cond b no_gathering (gathering_by js))).count
        ≡ length (cond a (grown j.octets (gathering_by js)) (cond b no_gathering (gathering_by js))).octets
    by_cases true b before = so_far (gathering_by js) (data_of j.octets) (is_sequel j.octets) before
    by_cases false true before = refl
    by_cases false false before = before

-- ---- a frame is gathered only on a channel that is open in mode 2: so a sequel in another mode is refused by 24

module _ (j : Judged) (js : List Judged) where
  abbrev m : List ℕ
  m = j.octets

  abbrev v : Configuration
  v = governed_by js m

  abbrev w : Gathering
  w = gathering_by js

  -- a fragment that goes on was accepted in mode 2, and leaves its channel so
  grown-mode : (takes m j.number v && not (is_last m || closes m)) ≡ true → (channels_by (j ∷ js) (channel_of m)).mode ≡ 2
  unfolding lookback governs
  grown-mode e = go (routes m) refl
    where
      goes_on : (is_last m || closes m) ≡ false
      goes_on = not-true (is_last m || closes m) (and_right (takes m j.number v) (not (is_last m || closes m)) e)

      taken : takes m j.number v ≡ true
      taken = and_left (takes m j.number v) (not (is_last m || closes m)) e

      accepted : j.number ≡ 0
      accepted =
          let last = or-false_left (is_last m) (closes m) goes_on in
          let either : (eqb j.number 0 || is_last m && of_whole j.number) ≡ true = and_right (is_fragment (type_of m) v) _ taken in
          zero (eqb j.number 0) refl (rw last at either)
        where
          zero : (b : Bool) → eqb j.number 0 ≡ b → (b || false) ≡ true → j.number ≡ 0
          zero true q h = eqb-true j.number 0 q
          zero false q h = absurd (false≢true h)

      mode : v.mode ≡ 2
      mode = eqb-true v.mode 2 (and_right (fragment_type (type_of m)) (eqb v.mode 2) (and_left (is_fragment (type_of m) v) _ taken))

      go : (b : Bool) → routes m ≡ b → (channels_by (j ∷ js) (channel_of m)).mode ≡ 2
      go true r = rw (accepted, r, or-false_right (is_last m) (closes m) goes_on, eq-eqb (channel_of m) (channel_of m) refl) (rw r at mode)
      go false r = rw (accepted, r, or-false_right (is_last m) (closes m) goes_on) (rw r at mode)

  -- a message that does not drop it leaves its channel as it was
  kept-mode : drops m j.number v w ≡ false → w.is_on ≡ true → (channels_by js w.channel).mode ≡ 2
      → (channels_by (j ∷ js) w.channel).mode ≡ 2
  unfolding lookback
  kept-mode e on before = go (decides m j.number) (eqb w.channel (channel_of m)) refl refl
    where
      elsewhere : (decides m j.number && gathers_on w (channel_of m)) ≡ false
      elsewhere = or-false_right (takes m j.number v || eqb j.number 25 || eqb j.number 26) (decides m j.number && gathers_on w (channel_of m)) e

      go : (a b : Bool) → decides m j.number ≡ a → eqb w.channel (channel_of m) ≡ b
          → (meant (cond (a && b) (decided m j.number) (lookback js w.channel))).mode ≡ 2
      go true true p q =
          let same = eqb-true w.channel (channel_of m) q in
          let there : (decides m j.number && (w.is_on && eqb (channel_of m) w.channel)) ≡ true = rw (p, on, eq-eqb (channel_of m) w.channel (sym same)) in
          absurd (false≢true (sym elsewhere ∙ there))
      go true false p q = before
      go false b p q = before

pub gathering_by-mode : (js : List Judged) → (gathering_by js).is_on ≡ true → (channels_by js (gathering_by js).channel).mode ≡ 2
unfolding gathering_by gathering_after
gathering_by-mode [] on = absurd (false≢true on)
gathering_by-mode (j ∷ js) on =
    by_cases (takes j.octets j.number (governed_by js j.octets) && not (is_last j.octets || closes j.octets))
    (drops j.octets j.number (governed_by js j.octets) (gathering_by js)) (gathering_by-mode js) refl refl on
  where
    by_cases : (a b : Bool) → ((gathering_by js).is_on ≡ true → (channels_by js (gathering_by js).channel).mode ≡ 2)
        → (takes j.octets j.number (governed_by js j.octets) && not (is_last j.octets || closes j.octets)) ≡ a
        → drops j.octets j.number (governed_by js j.octets) (gathering_by js) ≡ b
        → (cond a (grown j.octets (gathering_by js)) (cond b no_gathering (gathering_by js))).is_on ≡ true
        → (channels_by (j ∷ js) (cond a (grown j.octets (gathering_by js)) (cond b no_gathering (gathering_by js))).channel).mode ≡ 2
    by_cases true b before e f on = grown-mode j js e
    by_cases false true before e f on = absurd (false≢true on)
    by_cases false false before e f on = kept-mode j js f on (before on)
