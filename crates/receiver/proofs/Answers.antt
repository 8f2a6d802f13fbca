-- Every message and every set has an answer, from every record whose arrays have their lengths: one that meets the contract, so that the
-- claim over every list (History.antt) is not empty. A message's octets are numbers below 256. The answers are made of records that hold
-- what the definitions say; the functions' own answers are others in what no call shows.
use mathlib.Core.Path.{◌≡◌, refl, sym, ap, ◌∙◌}
use Prim.Native.Nat.{ℕ, ◌+◌}
use native.Mathlib.Omega.{arith}
use mathlib.Core.Bool.{Bool, true, false, true≢false, false≢true, cond}
use mathlib.Core.List.{List, [], ◌∷◌}
use lib.ListN.{length, replicate, length-replicate}
use lib.Dec.{eqb}
use borrow.Author.Tests.{eqb-true, eq-eqb}
use Rattle.tags.specs.Choice.{first}
use Rattle.tags.specs.Kept.{area_size}
use Rattle.tags.specs.KeptLaws.{dictionary_kept, dimmer_tags_kept}
use Rattle.receiver.specs.Message.{channel_of, routes, mode_of, service_of, match_bits, tags_of}
use Rattle.receiver.specs.Modes.{graphic_mode, dimmer_mode, known_mode, service_fits, channel_count}
use Rattle.receiver.specs.Slices.{Slices, slices, lengths}
use Rattle.receiver.specs.Gathering.{whole_of}
use Rattle.receiver.specs.Meters.{Sums}
use Rattle.receiver.specs.Checks.{header_number, route_number, governs, Standing, governed_in, number_of}
use Rattle.receiver.specs.Effects.{bare_reply, slices_after}
use Rattle.receiver.specs.Stream.{parts_in}
use Rattle.receiver.specs.Sets.{member_number, standing_after, set_reply, replied_from, replied_to, standing_behind}
use Rattle.receiver.specs.Record.{area_place, config_at, area_at, channels_of, configuration_of, gathering_of, sums_of, standing_of, consistent_at, consistent, Config}
use Rattle.receiver.specs.Contract.{outcome, Answered, set_outcome, set_answer, Patched}
use Rattle.receiver.specs.Steps.{RoutedTo, counts_with, Handled, Found, Done}
use Rattle.receiver.specs.declared.Receiver.{Receiver}
use Rattle.receiver.specs.declared.Outcome.{Outcome}
use Rattle.receiver.specs.declared.SetReply.{SetReply}
use Rattle.receiver.specs.declared.SetOutcome.{SetOutcome}
use Rattle.receiver.proofs.CheckLaws.{channel-below}
use Rattle.receiver.proofs.OctetLaws.{Octets, AllOctets, tags-octets, parts-octets}
use Rattle.receiver.proofs.PartLaws.{length_part}
use Rattle.receiver.proofs.RouteLaws.{routed, found-unknown, found-misfit, found-graphic, found-dimming, found-void}
use Rattle.receiver.proofs.RecordLaws.{channels_of-below}
use Rattle.receiver.proofs.SettleLaws.{consistent-each}
use Rattle.receiver.proofs.JudgeLaws.{consistent-channels}
use Rattle.receiver.proofs.RefusalLaws.{answered_inconsistent, answered-early}
use Rattle.receiver.proofs.SizedLaws.{Sized, three_meters}
use Rattle.receiver.proofs.AnswerLaws.{sized-next, answered}
use Rattle.receiver.proofs.SetLaws.{member_type, member_accepted, void_sums, void_message_number, void_answered, replied-any}

-- ---- a routing has a configuration

-- an area that says nothing
blank : List ℕ
blank = replicate area_size 0

length-blank : length blank ≡ area_size
unfolding blank
length-blank = length-replicate {A = ℕ} area_size 0

-- what is found, with an area
abbrev WithArea : (Found → List ℕ → Type 0) → Type 0
WithArea P = (f : Found) × (area : List ℕ) × (length area ≡ area_size) × P f area

module _ (mode service match : ℕ) (tags : List ℕ) (octets : Octets tags) where
  refused : ℕ → Found
  refused n = routed mode service match tags blank n 0 0

  routed-found : WithArea (RoutedTo mode service match tags)
  unfolding refused
  routed-found = by_tests (known_mode mode) (service_fits mode service) (graphic_mode mode) (dimmer_mode mode) refl refl refl refl
    where
      by_tests : (a b g d : Bool) → known_mode mode ≡ a → service_fits mode service ≡ b → graphic_mode mode ≡ g → dimmer_mode mode ≡ d
          → WithArea (RoutedTo mode service match tags)
      by_tests false b g d e h i j = (refused 6, blank, length-blank, found-unknown mode service match tags blank (refused 6) refl e)
      by_tests true false g d e h i j = (refused 7, blank, length-blank, found-misfit mode service match tags blank e (refused 7) refl h)
      by_tests true true true d e h i j =
          let kept = dictionary_kept mode tags blank length-blank in (_, _, kept.1, found-graphic mode service match tags _ e h i kept.0)
      by_tests true true false true e h i j =
          let kept = dimmer_tags_kept tags octets blank length-blank in
          (_, _, kept.1, found-dimming mode service match tags _ e h i j octets kept.0)
      by_tests true true false false e h i j = (_, blank, length-blank, found-void mode service match tags blank e h i j)

-- ---- every message has an answer

-- an answer to message m by receiver r with these slices, and the next receiver's sizes
pub record Given (r : Receiver) (m : List ℕ) (s : Slices) : Type 0 where
  pub outcome : Outcome
  pub left : Slices
  pub meets : Answered r m s outcome left
  pub sized : Sized outcome.receiver

module _ (r : Receiver) (z : Sized r) (m : List ℕ) (octets : Octets m) (s : Slices) where
  -- a refusal that leaves all as it was
  refused_answer : (n : ℕ) → Answered r m s (outcome r (bare_reply n)) s → Given r m s
  refused_answer n meets = record { outcome = outcome r (bare_reply n); left = s; meets = meets; sized = z }

  module _ (good : consistent r ≡ true) where
    early_answer : (n : ℕ) → eqb n 0 ≡ false → n ≡ first (header_number m) (route_number m) → Given r m s
    early_answer n e early = refused_answer n (answered-early r m s good n e early)

    -- the answer by what governs the message
    handled_answer : (k : Config) (area : List ℕ) → length area ≡ area_size → configuration_of k area ≡ governs m (channels_of r) → consistent_at k ≡ true → Given r m s
    handled_answer k area w same sound =
        let v = governs m (channels_of r) in
        let g = gathering_of r s.assembly in
        let n = number_of m (lengths s) (standing_of r s.assembly) in
        let d : Done = record { number = n; counts = counts_with n (whole_of m v g) v } in
        let handled : Handled r m s d (slices_after m n v g s) = record { number = refl; counts = refl; slices = refl } in
        record {
          outcome = _;
          left = _;
          meets = answered r z good m s d (slices_after m n v g s) handled k area w same sound;
          sized = sized-next r z good m s d (slices_after m n v g s) handled k area w same sound;
        }

    routed_answer : header_number m ≡ 0 → routes m ≡ true → Given r m s
    unfolding route_number governs
    routed_answer header q =
        let found = routed-found (mode_of m) (service_of m) (match_bits m) (tags_of m) (tags-octets m octets) in
        go found.0 found.1 found.2 found.3 (eqb found.0.number 0) refl
      where
        go : (f : Found) (area : List ℕ) → length area ≡ area_size → RoutedTo (mode_of m) (service_of m) (match_bits m) (tags_of m) f area
            → (t : Bool) → eqb f.number 0 ≡ t → Given r m s
        go f area w to true e = let none = eqb-true f.number 0 e in handled_answer f.config area w (rw q (to.config none)) (to.sound none)
        go f area w to false e = early_answer f.number e (rw (header, q) to.number)

    held_answer : routes m ≡ false → Given r m s
    unfolding governs
    held_answer q =
        let c = channel_of m in
        let below = channel-below m in
        handled_answer (config_at r c) (area_at r c)
        (length_part area_size (area_place c) r.channels (rw z.channels (omega (arith, below))))
        (rw q (sym (channels_of-below r c below)))
        (consistent-each r.channels channel_count (consistent-channels r good) c below)

  -- so it has an answer
  pub answer : Given r m s
  answer = by_checks (consistent r) (eqb (header_number m) 0) (routes m) refl refl refl
    where
      by_checks : (a b c : Bool) → consistent r ≡ a → eqb (header_number m) 0 ≡ b → routes m ≡ c → Given r m s
      by_checks false b c e h q = refused_answer 1 (answered_inconsistent r m s (bare_reply 1) e refl)
      by_checks true false c e h q = early_answer e (header_number m) h (rw h)
      by_checks true true true e h q = routed_answer e (eqb-true (header_number m) 0 h) q
      by_checks true true false e h q = held_answer e q

-- ---- every set has an answer

-- no slice is lent for its messages
no_slices : Slices
no_slices = slices [] [] []

-- what accepted messages lead to, from r: a record that shows what the last of them leaves, with the meters that r had
record Reached (r : Receiver) (ms : List (List ℕ)) : Type 0 where
  receiver : Receiver
  standing : (a : List ℕ) → standing_of receiver a ≡ standing_behind (standing_of r a) ms
  sound : consistent receiver ≡ true
  sized : Sized receiver
  meters : receiver.meters ≡ r.meters

-- meters that read the same are the same
same_meters : (r r₁ : Receiver) → Sized r → Sized r₁ → sums_of r₁ ≡ sums_of r → r₁.meters ≡ r.meters
same_meters r r₁ z z₁ e =
    sym (three_meters r₁.meters z₁.meters)
    ∙ ap (λ (s : Sums). s.lit_time ∷ s.points ∷ s.lit_points ∷ []) e
    ∙ three_meters r.meters z.meters

-- one accepted message leads to the answer to it
module _ (r : Receiver) (good : consistent r ≡ true) (z : Sized r) (m : List ℕ) (octets : Octets m)
    (accepted : member_number m (standing_of r []) ≡ 0) where
  given : Given r m no_slices
  given = answer r z m octets no_slices

  member_reached : Reached r (m ∷ [])
  unfolding standing_behind standing_after
  member_reached =
      let t = member_type m (standing_of r []) accepted in
      let shown =
      void_answered r good m t no_slices given.outcome given.left given.meets
      (void_message_number r good m t no_slices [] ∙ member_accepted m (standing_of r []) accepted) in
      record {
        receiver = given.outcome.receiver;
        standing = shown;
        sound = given.meets.sound ∙ good;
        sized = given.sized;
        meters =
            same_meters r given.outcome.receiver z given.sized
            (ap (λ (b : Standing). b.sums) (shown [])
            ∙ void_sums m t 0 (governed_in m (standing_of r [])) (standing_of r []).gathering (sums_of r));
      }

-- and so one after the other
reached : (ms : List (List ℕ)) (place : ℕ) (r : Receiver) → consistent r ≡ true → Sized r → AllOctets ms
    → (replied_from place (standing_of r []) ms).number ≡ 0 → Reached r ms
unfolding replied_from standing_behind AllOctets
reached [] place r good z octets e = record { receiver = r; standing = λ a. refl; sound = good; sized = z; meters = refl }
reached (m ∷ ms) place r good z octets e =
    go (eqb (member_number m b) 0) refl e (λ r₁ good₁ z₁. reached ms (place + 1) r₁ good₁ z₁ octets.1)
  where
    b : Standing
    b = standing_of r []

    go : (t : Bool) → eqb (member_number m b) 0 ≡ t
        → (cond t (replied_from (place + 1) (standing_after m b) ms) (set_reply place (member_number m b))).number ≡ 0
        → ((r₁ : Receiver) → consistent r₁ ≡ true → Sized r₁ → (replied_from (place + 1) (standing_of r₁ []) ms).number ≡ 0 → Reached r₁ ms)
        → Reached r (m ∷ ms)
    go true q h later =
        let next = member_reached r good z m octets.0 (eqb-true (member_number m b) 0 q) in
        let rest =
        later next.receiver next.sound next.sized
        (ap (λ (x : Standing). (replied_from (place + 1) x ms).number) (next.standing []) ∙ h) in
        record {
          receiver = rest.receiver;
          standing = λ a. rest.standing a ∙ ap (λ (x : Standing). standing_behind x ms) (next.standing a);
          sound = rest.sound;
          sized = rest.sized;
          meters = rest.meters ∙ next.meters;
        }
    go false q h later = absurd (false≢true (sym q ∙ eq-eqb (member_number m b) 0 h))

-- an answer to the set in these octets by receiver r, with the next receiver's sizes, and with the meters that r had
pub record GivenSet (r : Receiver) (octets : List ℕ) : Type 0 where
  pub outcome : SetOutcome
  pub meets : Patched r octets outcome
  pub sized : Sized outcome.receiver
  pub meters : outcome.receiver.meters ≡ r.meters

module _ (r : Receiver) (z : Sized r) (octets : List ℕ) (below : Octets octets) where
  -- check 1 refuses it
  unsound_answer : consistent r ≡ false → GivenSet r octets
  unsound_answer bad =
      record {
        outcome = set_outcome r (set_reply 0 1);
        meets =
            record {
              reply = λ a. rw bad;
              standing = λ a. rw bad;
              sound = refl;
              kept = λ refused. refl;
            };
        sized = z;
        meters = refl;
      }

  -- or it is accepted, or one of its messages is refused
  sound-answer : consistent r ≡ true → GivenSet r octets
  sound-answer good = go (eqb reply.number 0) refl
    where
      reply : SetReply
      reply = replied_to octets (standing_of r [])

      same : (a : List ℕ) → reply ≡ set_answer r octets a
      same a = rw good (replied-any r good octets [] a)

      number : (a : List ℕ) (t : Bool) → eqb reply.number 0 ≡ t → eqb (replied_to octets (standing_of r a)).number 0 ≡ t
      number a t e = ap (λ (p : SetReply). eqb p.number 0) (replied-any r good octets a []) ∙ e

      go : (t : Bool) → eqb reply.number 0 ≡ t → GivenSet r octets
      go true e =
          let end = reached (parts_in octets) 0 r good z (parts-octets octets below) (eqb-true reply.number 0 e) in
          record {
            outcome = set_outcome end.receiver reply;
            meets =
                record {
                  reply = same;
                  standing = λ a. end.standing a ∙ rw (good, number a true e);
                  sound = end.sound ∙ sym good;
                  kept = λ refused. absurd (true≢false (sym e ∙ refused));
                };
            sized = end.sized;
            meters = end.meters;
          }
      go false e =
          record {
            outcome = set_outcome r reply;
            meets =
                record {
                  reply = same;
                  standing = λ a. rw (good, number a false e);
                  sound = refl;
                  kept = λ refused. refl;
                };
            sized = z;
            meters = refl;
          }

  pub set_answer_lem : GivenSet r octets
  set_answer_lem = go (consistent r) refl
    where
      go : (t : Bool) → consistent r ≡ t → GivenSet r octets
      go true good = sound-answer good
      go false bad = unsound_answer bad
