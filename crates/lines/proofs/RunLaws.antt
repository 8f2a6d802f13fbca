-- Laws of a run of the listing: how it begins, what reading on and one more message add, and that its messages are all that stand in the
-- input.
use Rattle.std.proofs.Common.{ℕ, zero, suc, ◌+◌, ◌<◌, ◌≤◌, ◌≡◌, List, [], ◌∷◌, ◌++◌, length, take, drop, refl, ◌∙◌, arith, append_assoc, append-nil, length-append, length-drop, eq-eqb, le_refl}
use Rattle.std.proofs.Math.Seq.{take-length, drop-length}
use Rattle.receiver.specs.Slices.{Slices, lent, lengths}
use Rattle.receiver.specs.Meters.{sums}
use Rattle.receiver.specs.Contract.{Started, Answered}
use Rattle.receiver.specs.Stream.{entry_of, messages_in, left_in}
use Rattle.receiver.specs.StreamLaws.{messages-more, left_more, messages-enough, left_enough}
use Rattle.receiver.specs.declared.Receiver.{Receiver}
use Rattle.receiver.specs.declared.Outcome.{Outcome}
use Rattle.lines.specs.Lines.{reply_line}
use Rattle.lines.specs.Listing.{Listing, begun, listed, answers, Ran, ListingOf}
use Rattle.lines.specs.ListingLaws.{taken-apart}

-- the octets read before the first message
pub ran_begun : (o : Outcome) → Started (sums 0 0 0) o → (assembly unread : List ℕ) → Ran unread [] o.receiver assembly unread []
unfolding answers
ran_begun o started assembly unread = record { run = begun o started assembly unread; lines = refl }

more_read : {input : List ℕ} {messages : List (List ℕ)} {r : Receiver} {assembly unread : List ℕ} → (run : Listing input messages r assembly unread) → (more : List ℕ)
    → Ran (input ++ more) messages r assembly (unread ++ more) (answers run)
unfolding answers
more_read (begun o started assembly unread) more = record { run = begun o started assembly (unread ++ more); lines = refl }
more_read (listed {input = input} {unread = unread} run some s₀ s₁ o room same answered before) more =
    rw (append_assoc input before more, append_assoc (drop (entry_of unread) unread) before more)
    (record { run = listed run some s₀ s₁ o room same answered (before ++ more); lines = refl })

-- others are read
pub ran_more : {input : List ℕ} {messages : List (List ℕ)} {r : Receiver} {assembly unread lines : List ℕ} → Ran input messages r assembly unread lines → (more : List ℕ)
    → Ran (input ++ more) messages r assembly (unread ++ more) lines
ran_more h more = rw h.lines (more_read h.run more)

-- the message that all unread octets are is listed
pub ran_listed : {input : List ℕ} {messages : List (List ℕ)} {r : Receiver} {assembly m lines : List ℕ} → Ran input messages r assembly m lines
    → 0 < entry_of m → entry_of m ≡ length m → (s₀ s₁ : Slices) (o : Outcome) → lengths s₀ ≡ lent 12000 1024 65536 → s₀.assembly ≡ assembly
    → Answered r m s₀ o s₁ → Ran input (messages ++ (m ∷ [])) o.receiver s₁.assembly [] (lines ++ reply_line o.reply)
unfolding answers
ran_listed {input} {messages} {r} {m = m} h some all s₀ s₁ o room same answered =
    let front : take (entry_of m) m ≡ m = rw (all, take-length) refl in
    let rest : drop (entry_of m) m ++ [] ≡ [] = rw (all, drop-length) refl in
    let told : Answered r (take (entry_of m) m) s₀ o s₁ = rw front answered in
    let ran : Ran (input ++ []) (messages ++ (take (entry_of m) m ∷ [])) o.receiver s₁.assembly (drop (entry_of m) m ++ []) (answers h.run ++ reply_line o.reply) =
    record { run = listed h.run some s₀ s₁ o room same told []; lines = refl } in
    rw h.lines (rw (append-nil, front, rest) at ran)

-- no more is unread than was read
pub unread_le : {input : List ℕ} {messages : List (List ℕ)} {r : Receiver} {assembly unread : List ℕ} → Listing input messages r assembly unread → length unread ≤ length input
unread_le (begun o started assembly unread) = le_refl (length unread)
unread_le (listed {input = input} {unread = unread} run some s₀ s₁ o room same answered more) =
    let before = unread_le run in
    rw (length-append, length-append, length-drop) (omega (arith, before))

-- ---- the messages of a listing are all that stand in its input, and what is cut is all that they leave

none_in : (k : ℕ) (m : List ℕ) → entry_of m ≡ 0 → messages_in k m ≡ []
unfolding messages_in
none_in zero m e = refl
none_in (suc k) m e = rw (eq-eqb (entry_of m) 0 e) refl

all_left : (k : ℕ) (m : List ℕ) → entry_of m ≡ 0 → left_in k m ≡ m
unfolding left_in
all_left zero m e = refl
all_left (suc k) m e = rw (eq-eqb (entry_of m) 0 e) refl

pub all_listed : {input text : List ℕ} → (h : ListingOf input text) → entry_of h.rest ≡ 0
    → (messages_in (length input) input ≡ h.messages) × (left_in (length input) input ≡ h.rest)
all_listed {input} h e =
    let apart = taken-apart h.ran.run in
    let n = length h.messages in
    let k = length input in
    let more : messages_in (n + k) input ≡ h.messages =
    rw (apart.listed, apart.left, append-nil, append-nil, none_in k h.rest e, append-nil) at (messages-more n k input []) in
    let left : left_in (n + k) input ≡ h.rest =
    rw (apart.listed, apart.left, append-nil, append-nil, all_left k h.rest e) at (left_more n k input []) in (
      messages-enough k (n + k) input (le_refl k) (omega arith) ∙ more,
      left_enough k (n + k) input (le_refl k) (omega arith) ∙ left,
    )
