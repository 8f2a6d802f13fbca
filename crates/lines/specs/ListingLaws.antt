-- The listing takes its input apart as the definition of messages end to end does: the messages listed are those that stand in the octets
-- read from the front on, and the unread octets are what they leave.
use Rattle.std.specs.Prelude.{ℕ, ◌+◌, ◌≡◌, refl, List, [], ◌∷◌, ◌++◌, length, take}
use Rattle.std.proofs.Common.{ap, ◌∙◌, length-append}
use Rattle.receiver.specs.Stream.{entry_of, messages_in, left_in}
use Rattle.receiver.specs.StreamLaws.{first-message, messages-more, left_more}
use Rattle.receiver.specs.declared.Receiver.{Receiver}
use Rattle.lines.specs.Listing.{Listing, begun, listed}

pub record TakenApart (input : List ℕ) (messages : List (List ℕ)) (unread : List ℕ) : Type 0 where
  pub listed : messages_in (length messages) input ≡ messages
  pub left : left_in (length messages) input ≡ unread

pub taken-apart : {input : List ℕ} {messages : List (List ℕ)} {r : Receiver} {assembly unread : List ℕ} → Listing input messages r assembly unread
    → TakenApart input messages unread
unfolding messages_in left_in
taken-apart (begun o started assembly unread) = record { listed = refl; left = refl }
taken-apart (listed {input = input} {messages = messages} {unread = unread} run some s₀ s₁ o room same answered more) =
    let before = taken-apart run in
    let n : length (messages ++ (take (entry_of unread) unread ∷ [])) ≡ length (messages_in (length messages) input) + 1 =
    rw (before.listed, length-append) refl in
    let front = first-message unread more some in
    record {
      listed =
          ap (λ (k : ℕ). messages_in k (input ++ more)) n
          ∙ messages-more (length messages) 1 input more
          ∙ rw (before.listed, before.left) (ap (λ (ms : List (List ℕ)). messages ++ ms) front.0);
      left =
          ap (λ (k : ℕ). left_in k (input ++ more)) n
          ∙ left_more (length messages) 1 input more
          ∙ rw before.left front.1;
    }
