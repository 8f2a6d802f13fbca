-- Laws about a refusal that changes no record: by check 1, and by 2 to 14.
use mathlib.Core.Path.{◌≡◌, refl, ◌∙◌}
use Prim.Native.Nat.{ℕ, ◌≤◌}
use native.Mathlib.Omega.{arith}
use mathlib.Core.Bool.{Bool, true, false, cond, not, and-false, ◌&&◌, ◌||◌}
use mathlib.Core.List.{List}
use lib.Dec.{eqb, lit≤}
use borrow.Author.Tests.{ne_eqb, lt-leb}
use Rattle.tags.specs.ChoiceLaws.{or-false_left, or-false_right, first_holds}
use Rattle.tags.specs.Dictionary.{dictionary_number}
use Rattle.tags.specs.Dimmer.{dimmer_number}
use Rattle.tags.specs.RefusalLaws.{dictionary_number-holds, dimmer_number-holds}
use Rattle.tags.specs.Choice.{refuse, first}
use Rattle.receiver.specs.Message.{top_bit, type_of, is_last, routes, service_of, mode_of, tags_of}
use Rattle.receiver.specs.Modes.{graphic_mode, dimmer_mode, known_mode, service_fits}
use Rattle.receiver.specs.Governing.{Configuration}
use Rattle.receiver.specs.Slices.{Slices}
use Rattle.receiver.specs.Chunk.{known_type, is_fragment}
use Rattle.receiver.specs.Checks.{wrong_length, passes_end, header_number, tags_number, routing_number, route_number, governs, in_order, number_of}
use Rattle.receiver.specs.Effects.{bare_reply, reply_of, of_whole, takes, assembly_after, slices_after, sums_after, governing_after, gathering_after}
use Rattle.receiver.specs.Record.{channels_of, consistent}
use Rattle.receiver.specs.Contract.{outcome, message_number, changes, AnsweredWith, Answered}
use Rattle.receiver.specs.declared.Receiver.{Receiver}
use Rattle.receiver.specs.declared.Reply.{Reply}
use Rattle.receiver.proofs.CheckLaws.{first_assoc}

-- ---- a refusal that changes no record

-- what its number is not
pub record Unchanged (m : List ℕ) (n : ℕ) : Type 0 where
  pub not_0 : eqb n 0 ≡ false
  pub not_19 : eqb n 19 ≡ false
  pub not_25 : eqb n 25 ≡ false
  pub not_26 : eqb n 26 ≡ false
  pub not_whole : (is_last m && of_whole n) ≡ false

pub unchanged_by : (m : List ℕ) (n : ℕ) → changes m n ≡ false → Unchanged m n
unchanged_by m n e =
    let four = or-false_left (eqb n 0 || eqb n 19 || eqb n 25 || eqb n 26) (is_last m && of_whole n) e in
    let three = or-false_left (eqb n 0 || eqb n 19 || eqb n 25) (eqb n 26) four in
    let two = or-false_left (eqb n 0 || eqb n 19) (eqb n 25) three in
    record {
      not_0 = or-false_left (eqb n 0) (eqb n 19) two;
      not_19 = or-false_right (eqb n 0) (eqb n 19) two;
      not_25 = or-false_right (eqb n 0 || eqb n 19) (eqb n 25) three;
      not_26 = or-false_right (eqb n 0 || eqb n 19 || eqb n 25) (eqb n 26) four;
      not_whole = or-false_right (eqb n 0 || eqb n 19 || eqb n 25 || eqb n 26) (is_last m && of_whole n) e;
    }

-- no fragment is taken where the number neither accepts it nor is the whole's
pub takes_none : (m : List ℕ) (n : ℕ) (v : Configuration) → eqb n 0 ≡ false → (is_last m && of_whole n) ≡ false → takes m n v ≡ false
takes_none m n v e h = rw (e, h, and-false (is_fragment (type_of m) v))

-- ---- the numbers of checks 2 to 14

header-few : (m : List ℕ) → header_number m ≤ 14
unfolding header_number
header-few m = go (wrong_length m) (eqb (top_bit m) 0) (not (known_type (type_of m))) (passes_end m)
  where
    go : (a b c d : Bool) → first (refuse a 2) (first (refuse b 3) (first (refuse c 4) (refuse d 5))) ≤ 14
    go true b c d = omega arith
    go false true c d = omega arith
    go false false true d = omega arith
    go false false false true = omega arith
    go false false false false = omega arith

tags-few : (mode : ℕ) (tags : List ℕ) → tags_number mode tags ≤ 14
unfolding tags_number
tags-few mode tags = go (graphic_mode mode) (dimmer_mode mode)
  where
    few : ℕ → Type 0
    few n = n ≤ 14

    go : (a b : Bool) → cond a (dictionary_number mode tags) (cond b (dimmer_number tags) 0) ≤ 14
    go true b = dictionary_number-holds (λ (n : ℕ). n ≤ 14) (lit≤ tt) (lit≤ tt) (lit≤ tt) (lit≤ tt) (lit≤ tt) (lit≤ tt) mode tags
    go false true = dimmer_number-holds (λ (n : ℕ). n ≤ 14) (lit≤ tt) (lit≤ tt) (lit≤ tt) tags
    go false false = omega arith

route-few : (m : List ℕ) → route_number m ≤ 14
unfolding route_number routing_number
route-few m = go (routes m) (not (known_mode (mode_of m))) (not (service_fits (mode_of m) (service_of m)))
  where
    go : (a b c : Bool) → cond a (first (refuse b 6) (first (refuse c 7) (tags_number (mode_of m) (tags_of m)))) 0 ≤ 14
    go true true c = omega arith
    go true false true = omega arith
    go true false false = tags-few (mode_of m) (tags_of m)
    go false b c = omega arith

-- ---- the answer

module _ (r : Receiver) (m : List ℕ) (s : Slices) where
  answered-refused : (n : ℕ) → changes m n ≡ false → AnsweredWith n r m s (outcome r (bare_reply n)) s
  unfolding reply_of slices_after assembly_after sums_after governing_after gathering_after
  answered-refused n e =
      let u = unchanged_by m n e in
      let none = takes_none m n (governs m (channels_of r)) u.not_0 u.not_whole in
      record {
        reply = rw u.not_0;
        slices = rw (none, u.not_0);
        meters = rw u.not_0;
        channels = λ c. rw (u.not_0, u.not_19);
        gathering = rw (none, u.not_0, u.not_19, u.not_25, u.not_26);
        sound = refl;
        kept = λ q. refl;
      }

  -- a record that check 1 refuses
  pub answered_inconsistent : (reply : Reply) → consistent r ≡ false → reply ≡ bare_reply 1 → Answered r m s (outcome r reply) s
  answered_inconsistent reply e q = rw (e, q) (answered-refused 1 (and-false (is_last m)))

  -- or one of 2 to 14 the message
  module _ (good : consistent r ≡ true) (n : ℕ) (e : eqb n 0 ≡ false) (early : n ≡ first (header_number m) (route_number m)) where
    number-early : message_number r m s ≡ n
    unfolding number_of in_order
    number-early = rw good (first_assoc (header_number m) (route_number m) _ ∙ rw (← early, e))

    unchanged-early : changes m n ≡ false
    unchanged-early =
        let few : n ≤ 14 = rw early (first_holds (λ (x : ℕ). x ≤ 14) (header_number m) (route_number m) (header-few m) (route-few m)) in
        rw
        (e, ne_eqb n 19 (λ q. omega (arith, few, q)), ne_eqb n 25 (λ q. omega (arith, few, q)), ne_eqb n 26 (λ q. omega (arith, few, q)), lt-leb 20 n (omega (arith, few)), and-false (is_last m))

    pub answered-early : Answered r m s (outcome r (bare_reply n)) s
    answered-early = rw number-early (answered-refused n unchanged-early)
