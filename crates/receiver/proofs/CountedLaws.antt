-- Laws about sets in the look-back rule (document 02, C-14): an accepted set leaves what the rule finds after its messages in order, a
-- refused one what it finds without them; so a record that agrees with the rule before a set agrees with it after the set.
use mathlib.Core.Path.{◌≡◌, refl, sym, ap, ◌∙◌, subst, fun_ext}
use Prim.Native.Nat.{ℕ, ◌+◌}
use mathlib.Core.Bool.{Bool, true, false, false≢true, cond}
use mathlib.Core.List.{List, [], ◌∷◌, map, reverse_aux}
use native.Mathlib.Omega.{arith}
use lib.Dec.{eqb}
use borrow.Author.Tests.{eqb-true, eq-eqb}
use Rattle.receiver.specs.Message.{type_of}
use Rattle.receiver.specs.Meters.{Sums, NotAbove}
use Rattle.receiver.specs.Checks.{Standing, governed_in, number_of}
use Rattle.receiver.specs.Effects.{sums_after, governing_after, gathering_after}
use Rattle.receiver.specs.Stream.{parts_in}
use Rattle.receiver.specs.Sets.{none_lent, member_number, standing_after, set_reply, replied_from, replied_to, standing_behind, standing_by_set}
use Rattle.receiver.specs.LookBack.{Offer, offer, Judged, channels_by, governed_by, gathering_by, worked_out, running, standing_by, judge, judged, members}
use Rattle.receiver.specs.Record.{sums_of, standing_of, consistent}
use Rattle.receiver.specs.Contract.{Patched}
use Rattle.receiver.specs.declared.Receiver.{Receiver}
use Rattle.receiver.specs.declared.SetOutcome.{SetOutcome}
use Rattle.receiver.proofs.CheckLaws.{NotAbove_refl, NotAbove_trans, sums_after-grows}
use Rattle.receiver.proofs.AssemblyLaws.{gathering-unbegun}
use Rattle.receiver.proofs.SetLaws.{member_type, member_accepted}
use Rattle.receiver.proofs.LookBackLaws.{sums_after-plus, channels_by-next, Agrees, standing-agrees}

-- ---- the messages of a set

module _ (s : Sums) where
  -- an accepted message of a set leaves what the rule finds after it
  member_stands : (m : List ℕ) (js : List Judged) → member_number m (standing_by s js) ≡ 0
      → standing_after m (standing_by s js) ≡ standing_by s (judge s js (offer m none_lent) ∷ js)
  unfolding standing_after gathering_by worked_out
  member_stands m js accepted = sym (ap left (member_accepted m (standing_by s js) accepted)) ∙ counted
    where
      left : ℕ → Standing
      left n =
          record {
            channels = governing_after m n (channels_by js);
            gathering = gathering_after m n (governed_by js m) (gathering_by js);
            sums = sums_after m n (governed_by js m) (gathering_by js) (running s js);
          }

      counted : left (number_of m none_lent (standing_by s js)) ≡ standing_by s (judge s js (offer m none_lent) ∷ js)
      counted i =
          record {
            channels = fun_ext (channels_by-next (judge s js (offer m none_lent)) js) i;
            gathering = gathering_after m (number_of m none_lent (standing_by s js)) (governed_by js m) (gathering_by js);
            sums = sums_after-plus m (number_of m none_lent (standing_by s js)) (governed_by js m) (gathering_by js) s (worked_out js) i;
          }

  -- what holds along the messages of a set, each accepted by what stood after the one before: P of the messages that count before it and of
  -- the messages that are still to come
  along : (P : List Offer → List (List ℕ) → Type 0)
      → ((m : List ℕ) (ms : List (List ℕ)) (offers : List Offer) → member_number m (standing_by s (judged s offers)) ≡ 0
      → P (offer m none_lent ∷ offers) ms → P offers (m ∷ ms))
      → ((offers : List Offer) → P offers [])
      → (place : ℕ) (ms : List (List ℕ)) (offers : List Offer) → (replied_from place (standing_by s (judged s offers)) ms).number ≡ 0 → P offers ms
  unfolding replied_from judged
  along P step end place [] offers e = end offers
  along P step end place (m ∷ ms) offers e =
      go (eqb (member_number m b) 0) refl e (along P step end (place + 1) ms (offer m none_lent ∷ offers))
    where
      b : Standing
      b = standing_by s (judged s offers)

      go : (t : Bool) → eqb (member_number m b) 0 ≡ t
          → (cond t (replied_from (place + 1) (standing_after m b) ms) (set_reply place (member_number m b))).number ≡ 0
          → ((replied_from (place + 1) (standing_by s (judge s (judged s offers) (offer m none_lent) ∷ judged s offers)) ms).number ≡ 0
          → P (offer m none_lent ∷ offers) ms)
          → P offers (m ∷ ms)
      go true q h later =
          let accepted = eqb-true (member_number m b) 0 q in
          step m ms offers accepted
          (later
          (sym (ap (λ (x : Standing). (replied_from (place + 1) x ms).number) (member_stands m (judged s offers) accepted)) ∙ h))
      go false q h later = absurd (false≢true (sym q ∙ eq-eqb (member_number m b) 0 h))

  -- so the last of an accepted set leaves what the rule finds after its messages in order
  members-stand : (place : ℕ) (ms : List (List ℕ)) (offers : List Offer) → (replied_from place (standing_by s (judged s offers)) ms).number ≡ 0
      → standing_behind (standing_by s (judged s offers)) ms ≡ standing_by s (judged s (reverse_aux (map (λ m. offer m none_lent) ms) offers))
  unfolding standing_behind judged
  members-stand =
      along (λ offers ms. standing_behind (standing_by s (judged s offers)) ms ≡ standing_by s (judged s (reverse_aux (map (λ m. offer m none_lent) ms) offers)))
      (λ m ms offers accepted later. ap (λ (x : Standing). standing_behind x ms) (member_stands m (judged s offers) accepted) ∙ later)
      (λ offers. refl)

  -- and where no frame is gathered before them, none is after them: a message of type 0x00 begins none
  members-unbegun : (place : ℕ) (ms : List (List ℕ)) (offers : List Offer) → (replied_from place (standing_by s (judged s offers)) ms).number ≡ 0
      → (gathering_by (judged s offers)).is_on ≡ false → (gathering_by (judged s (reverse_aux (map (λ m. offer m none_lent) ms) offers))).is_on ≡ false
  unfolding judged gathering_by
  members-unbegun =
      along (λ offers ms. (gathering_by (judged s offers)).is_on ≡ false → (gathering_by (judged s (reverse_aux (map (λ m. offer m none_lent) ms) offers))).is_on ≡ false)
      (λ m ms offers accepted later off.
      let b = standing_by s (judged s offers) in
      later
      (gathering-unbegun m none_lent b (λ first. void_not_first (type_of m) (member_type m b accepted) first) off))
      (λ offers off. off)
    where
      void_not_first : (t : ℕ) → t ≡ 0 → t ≡ 3 → ⊥
      void_not_first t void first = omega arith

  -- ---- the set

  -- the messages that count after it: "An accepted set counts in a meter history as its messages in order, a refused one as no message."
  abbrev pub counted_with : List ℕ → List Offer → List Offer
  counted_with octets offers =
      cond (eqb (replied_to octets (standing_by s (judged s offers))).number 0) (reverse_aux (members octets) offers) offers

  pub set-stands : (octets : List ℕ) (offers : List Offer)
      → standing_by_set octets (standing_by s (judged s offers)) ≡ standing_by s (judged s (counted_with octets offers))
  set-stands octets offers = go (eqb (replied_to octets b).number 0) refl
    where
      b : Standing
      b = standing_by s (judged s offers)

      go : (t : Bool) → eqb (replied_to octets b).number 0 ≡ t
          → cond t (standing_behind b (parts_in octets)) b ≡ standing_by s (judged s (cond t (reverse_aux (members octets) offers) offers))
      go true e = members-stand 0 (parts_in octets) offers (eqb-true (replied_to octets b).number 0 e)
      go false e = refl

  pub set-unbegun : (octets : List ℕ) (offers : List Offer) → (gathering_by (judged s offers)).is_on ≡ false
      → (gathering_by (judged s (counted_with octets offers))).is_on ≡ false
  set-unbegun octets offers off = go (eqb (replied_to octets (standing_by s (judged s offers))).number 0) refl
    where
      go : (t : Bool) → eqb (replied_to octets (standing_by s (judged s offers))).number 0 ≡ t
          → (gathering_by (judged s (cond t (reverse_aux (members octets) offers) offers))).is_on ≡ false
      go true e = members-unbegun 0 (parts_in octets) offers (eqb-true (replied_to octets (standing_by s (judged s offers))).number 0 e) off
      go false e = off

  module _ (offers : List Offer) (r : Receiver) (a : List ℕ) (agrees : Agrees s (judged s offers) r a) (octets : List ℕ)
      (o : SetOutcome) (patched : Patched r octets o) where
    stands : standing_of r a ≡ standing_by s (judged s offers)
    stands = standing-agrees s (judged s offers) r a agrees a (λ on. refl)

    pub set_reply-agrees : o.reply ≡ replied_to octets (standing_by s (judged s offers))
    set_reply-agrees = patched.reply a ∙ rw agrees.sound (ap (replied_to octets) stands)

    pub patched_agrees : Agrees s (judged s (counted_with octets offers)) o.receiver a
    patched_agrees =
        let after : standing_of o.receiver a ≡ standing_by s (judged s (counted_with octets offers)) =
        patched.standing a ∙ rw agrees.sound (ap (standing_by_set octets) stands) ∙ set-stands octets offers in
        record {
          meters = ap (λ (b : Standing). b.sums) after;
          channels = λ c. ap (λ (b : Standing). b.channels c) after;
          gathering = ap (λ (b : Standing). b.gathering) after;
          sound = patched.sound ∙ agrees.sound;
        }

-- ---- no meter falls over a set

behind-grows : (ms : List (List ℕ)) (b : Standing) → NotAbove b.sums (standing_behind b ms).sums
unfolding standing_behind standing_after
behind-grows [] b = NotAbove_refl b.sums
behind-grows (m ∷ ms) b =
    NotAbove_trans b.sums (standing_after m b).sums (standing_behind (standing_after m b) ms).sums
    (sums_after-grows m 0 (governed_in m b) b.gathering b.sums)
    (behind-grows ms (standing_after m b))

pub patched_grows : (r : Receiver) (octets : List ℕ) (o : SetOutcome) → Patched r octets o → NotAbove (sums_of r) (sums_of o.receiver)
patched_grows r octets o patched =
    subst (λ (b : Standing). NotAbove (sums_of r) b.sums) (sym (patched.standing []))
    (go (consistent r) (eqb (replied_to octets before).number 0))
  where
    before : Standing
    before = standing_of r []

    go : (good accepted : Bool) → NotAbove (sums_of r) (cond good (cond accepted (standing_behind before (parts_in octets)) before) before).sums
    go true true = behind-grows (parts_in octets) before
    go true false = NotAbove_refl (sums_of r)
    go false accepted = NotAbove_refl (sums_of r)
