-- A set beside its messages offered one by one (document 02, C-14; the calls' own contracts): "All are accepted or none is, with the channels
-- that offering them one by one would leave." Each message may be lent whatever slices.
use mathlib.Core.Path.{◌≡◌, refl, sym, ap, ◌∙◌}
use Prim.Native.Nat.{ℕ, suc, ◌+◌}
use native.Mathlib.Nat.{add-zero}
use native.Mathlib.Omega.{arith}
use mathlib.Core.Bool.{true, false}
use mathlib.Core.List.{List, [], ◌∷◌, ◌++◌}
use lib.ListN.{length}
use lib.Dec.{eqb}
use Rattle.receiver.specs.Message.{type_of}
use Rattle.receiver.specs.Slices.{Slices}
use Rattle.receiver.specs.Checks.{Standing}
use Rattle.receiver.specs.Sets.{member_number, set_reply, replied_from, standing_behind}
use Rattle.receiver.specs.Record.{standing_of, consistent}
use Rattle.receiver.specs.Contract.{Answered}
use Rattle.receiver.specs.declared.Receiver.{Receiver}
use Rattle.receiver.specs.declared.Outcome.{Outcome}
use Rattle.receiver.proofs.SetLaws.{member_answered}

-- messages offered in order, the first to r and each to what the one before left: all are of type 0x00 and accepted, and r₁ is left
pub data OneByOne : Receiver → List (List ℕ) → Receiver → Type 0 where
  none : (r : Receiver) → OneByOne r [] r
  next : {r r₁ : Receiver} {ms : List (List ℕ)} (m : List ℕ) (s : Slices) (o : Outcome) (s₁ : Slices) → Answered r m s o s₁
      → type_of m ≡ 0 → o.reply.number ≡ 0 → OneByOne o.receiver ms r₁ → OneByOne r (m ∷ ms) r₁

-- ---- one message

-- its number is that of the message in a set
pub member_number_lem : (r : Receiver) → consistent r ≡ true → (m : List ℕ) → type_of m ≡ 0 → (s : Slices) (o : Outcome) (s₁ : Slices) → Answered r m s o s₁
    → (a : List ℕ) → member_number m (standing_of r a) ≡ o.reply.number
member_number_lem r good m t s o s₁ answered a = sym ((member_answered r good m t s o s₁ answered).number a)

-- ---- all of them

-- accepted one by one, they are accepted as a set: as many as there are, and the same is left
pub accepted-OneByOne : {r r₁ : Receiver} {ms : List (List ℕ)} → consistent r ≡ true → OneByOne r ms r₁ → (place : ℕ) (a : List ℕ)
    → (replied_from place (standing_of r a) ms ≡ set_reply (place + length ms) 0) × (standing_of r₁ a ≡ standing_behind (standing_of r a) ms)
unfolding replied_from standing_behind
accepted-OneByOne good (none r) place a = (ap (λ (k : ℕ). set_reply k 0) (sym (add-zero place)), refl)
accepted-OneByOne {r} good (next {ms = ms} m s o s₁ answered t zero later) place a =
    let number : member_number m (standing_of r a) ≡ 0 = member_number_lem r good m t s o s₁ answered a ∙ zero in
    let left = (member_answered r good m t s o s₁ answered).standing zero a in
    let rest = accepted-OneByOne (answered.sound ∙ good) later (place + 1) a in
    let count : place + 1 + length ms ≡ place + suc (length ms) = omega arith in (
      rw number
          (ap (λ (b : Standing). replied_from (place + 1) b ms) (sym left) ∙ rest.0 ∙ ap (λ (k : ℕ). set_reply k 0) count),
      rest.1 ∙ ap (λ (b : Standing). standing_behind b ms) left,
    )

-- the first that is refused, behind those accepted one by one, gives its place and its number, whatever follows
pub refused-OneByOne : {r r₁ : Receiver} {ms : List (List ℕ)} → consistent r ≡ true → OneByOne r ms r₁
    → (m : List ℕ) (n : ℕ) → ((a : List ℕ) → member_number m (standing_of r₁ a) ≡ n) → eqb n 0 ≡ false
    → (later : List (List ℕ)) (place : ℕ) (a : List ℕ) → replied_from place (standing_of r a) (ms ++ m ∷ later) ≡ set_reply (place + length ms) n
unfolding replied_from
refused-OneByOne good (none r) m n number e later place a =
    rw (number a, e) (ap (λ (k : ℕ). set_reply k n) (sym (add-zero place)))
refused-OneByOne {r} good (next {ms = ms} m₀ s o s₁ answered t zero after) m n number e later place a =
    let first : member_number m₀ (standing_of r a) ≡ 0 = member_number_lem r good m₀ t s o s₁ answered a ∙ zero in
    let left = (member_answered r good m₀ t s o s₁ answered).standing zero a in
    let rest = refused-OneByOne (answered.sound ∙ good) after m n number e later (place + 1) a in
    let count : place + 1 + length ms ≡ place + suc (length ms) = omega arith in
    rw first
    (ap (λ (b : Standing). replied_from (place + 1) b (ms ++ m ∷ later)) (sym left) ∙ rest ∙ ap (λ (k : ℕ). set_reply k n) count)
