-- Laws about a set answered: a record that check 1 refuses is left alone, and of any other the messages were offered.
use mathlib.Core.Path.{◌≡◌, refl, sym, ap, subst, ◌∙◌}
use Prim.Native.Nat.{ℕ}
use mathlib.Core.Bool.{false, true≢false}
use mathlib.Core.List.{List, [], ◌∷◌}
use Rattle.receiver.specs.Stream.{parts_in}
use Rattle.receiver.specs.Sets.{set_reply, replied_from, replied_to, standing_behind}
use Rattle.receiver.specs.Record.{standing_of, consistent}
use Rattle.receiver.specs.Refusal.{refusal_number}
use Rattle.receiver.specs.Contract.{set_outcome, Patched}
use Rattle.receiver.specs.Steps.{MemberOf}
use Rattle.receiver.specs.declared.Receiver.{Receiver}
use Rattle.receiver.specs.declared.SetReply.{SetReply}
use Rattle.receiver.specs.declared.refusal.Refusal.{Refusal}
use Rattle.receiver.proofs.NumberLaws.{refusal-some}
use Rattle.receiver.proofs.UnderwayLaws.{Underway}

pub patched_inconsistent : (r : Receiver) (octets : List ℕ) → consistent r ≡ false → Patched r octets (set_outcome r (set_reply 0 1))
patched_inconsistent r octets bad =
    record { reply = λ a. rw bad refl; standing = λ a. rw bad refl; sound = refl; kept = λ e. refl }

-- a message is refused, and the record is as before
pub patched_refused : {r₀ r r₁ : Receiver} (octets : List ℕ) {m : List ℕ} {left rest : List (List ℕ)} {place : ℕ} {reply : SetReply} (e : Refusal)
    → Underway r₀ (parts_in octets) place left r → left ≡ m ∷ rest → MemberOf r m (refusal_number e) r₁ → reply ≡ set_reply place (refusal_number e)
    → Patched r₀ octets (set_outcome r₀ reply)
unfolding replied_from
patched_refused {r₀} {r} octets {place = place} e u next member is =
    let replied : (a : List ℕ) → replied_to octets (standing_of r₀ a) ≡ set_reply place (refusal_number e) =
    λ a. u.reply a ∙ ap (replied_from place (standing_of r a)) next ∙ rw (← member.number a, refusal-some e) in
    subst (λ (reply : SetReply). Patched r₀ octets (set_outcome r₀ reply)) (sym is)
    (record {
      reply = λ a. rw (u.first, replied a) refl;
      standing = λ a. rw (u.first, replied a, refusal-some e) refl;
      sound = refl;
      kept = λ e. refl;
    })

-- all are accepted
pub patched_accepted : {r₀ r : Receiver} (octets : List ℕ) {left : List (List ℕ)} {place : ℕ}
    → Underway r₀ (parts_in octets) place left r → left ≡ [] → Patched r₀ octets (set_outcome r (set_reply place 0))
unfolding replied_from standing_behind
patched_accepted {r₀} {r} octets {place = place} u none =
    let replied : (a : List ℕ) → replied_to octets (standing_of r₀ a) ≡ set_reply place 0 =
    λ a. u.reply a ∙ ap (replied_from place (standing_of r a)) none in
    record {
      reply = λ a. rw (u.first, replied a) refl;
      standing = λ a. rw (u.first, replied a) (sym (u.standing a ∙ ap (standing_behind (standing_of r a)) none));
      sound = u.sound ∙ sym u.first;
      kept = λ e. absurd (true≢false e);
    }
