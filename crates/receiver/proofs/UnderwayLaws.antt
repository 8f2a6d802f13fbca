-- Laws about a set that is being offered: some messages were accepted, and the reply and what is left are those of the rest, offered to what
-- the last of these left.
use mathlib.Core.Path.{◌≡◌, refl, sym, ap, ◌∙◌}
use Prim.Native.Nat.{ℕ, zero, suc, ◌+◌, ◌<◌, ◌≤◌}
use native.Mathlib.Nat.{le_refl}
use native.Mathlib.Omega.{arith}
use mathlib.Core.Bool.{Bool, true, false, cond}
use mathlib.Core.List.{List, [], ◌∷◌}
use lib.ListN.{length, take, drop, length-drop}
use lib.Dec.{eqb}
use Rattle.std.specs.Prelude.{Option, Some, None, IfSome}
use Rattle.std.specs.Option.{unwrap_or}
use Rattle.std.proofs.Common.{ne_eqb}
use Rattle.std.proofs.lemmas.Bool.{eqb-false}
use Rattle.receiver.specs.Message.{total_size}
use Rattle.receiver.specs.Stream.{is_cut, entry_of, parts_in, part_of}
use Rattle.receiver.specs.StreamLaws.{parts_none, parts_next}
use Rattle.receiver.specs.Sets.{replied_from, standing_behind}
use Rattle.receiver.specs.Record.{standing_of, consistent}
use Rattle.receiver.specs.Steps.{MemberOf}
use Rattle.receiver.specs.declared.Receiver.{Receiver}

-- ---- the parts of a set

pub parts_empty : (octets : List ℕ) → length octets ≡ 0 → parts_in octets ≡ []
parts_empty [] e = parts_none
parts_empty (x ∷ l) e = absurd (omega (arith, e))

-- the one at the front, by the size of the message there
pub part_next : (octets : List ℕ) (size : ℕ) (front : Option ℕ) → front ≡ cond (is_cut octets) None (Some (total_size octets))
    → IfSome front (λ n. (0 < n) × (n ≤ length octets)) → size ≡ unwrap_or front (length octets) → 0 < length octets
    → parts_in octets ≡ take size octets ∷ parts_in (drop size octets)
unfolding entry_of
part_next octets size front is bounds s some =
    parts_next octets some ∙ ap (λ (n : ℕ). take n octets ∷ parts_in (drop n octets)) (sym (s ∙ go (is_cut octets) front is bounds))
  where
    go : (b : Bool) (front : Option ℕ) → front ≡ cond b None (Some (total_size octets)) → IfSome front (λ n. (0 < n) × (n ≤ length octets))
        → unwrap_or front (length octets) ≡ cond (eqb (cond b 0 (total_size octets)) 0) (length octets) (cond b 0 (total_size octets))
    go true front e bounds = rw e
    go false front e bounds = let some = (rw e at bounds).0 in rw (e, ne_eqb (total_size octets) 0 (omega (arith, some)))

-- there are no more of them than octets
pub parts_count : (n : ℕ) (octets : List ℕ) → length octets ≤ n → length (parts_in octets) ≤ length octets
parts_count n [] h = rw parts_none (omega arith)
parts_count zero (x ∷ l) h = absurd (omega (arith, h))
parts_count (suc n) (x ∷ l) h =
    let some : 0 < part_of (x ∷ l) = go (eqb (entry_of (x ∷ l)) 0) refl in
    let less : length (drop (part_of (x ∷ l)) (x ∷ l)) ≤ n = rw length-drop (omega (arith, some, h)) in
    let later = rw length-drop at (parts_count n (drop (part_of (x ∷ l)) (x ∷ l)) less) in
    let next = ap length (parts_next (x ∷ l) (omega arith)) in
    omega (arith, some, later, next)
  where
    go : (b : Bool) → eqb (entry_of (x ∷ l)) 0 ≡ b → 0 < cond b (length (x ∷ l)) (entry_of (x ∷ l))
    go true e = omega arith
    go false e = let some = eqb-false (entry_of (x ∷ l)) 0 e in omega (arith, some)

-- ---- the messages in turn

-- Record r₀, which check 1 passes, was offered messages `all`: those before `rest` were accepted, `place` of them, and r is what they left.
pub record Underway (r₀ : Receiver) (all : List (List ℕ)) (place : ℕ) (rest : List (List ℕ)) (r : Receiver) : Type 0 where
  pub first : consistent r₀ ≡ true
  pub reply : (a : List ℕ) → replied_from 0 (standing_of r₀ a) all ≡ replied_from place (standing_of r a) rest
  pub standing : (a : List ℕ) → standing_behind (standing_of r₀ a) all ≡ standing_behind (standing_of r a) rest
  pub sound : consistent r ≡ true
  pub counted : place + length rest ≡ length all

-- with the next message accepted, it goes on
pub underway_next : {r₀ r r₁ : Receiver} {all left rest : List (List ℕ)} {place : ℕ} {m : List ℕ}
    → Underway r₀ all place left r → left ≡ m ∷ rest → MemberOf r m 0 r₁ → Underway r₀ all (place + 1) rest r₁
unfolding replied_from standing_behind
underway_next {r} {place = place} u next member =
    record {
      first = u.first;
      reply = λ a.
          u.reply a
          ∙ ap (replied_from place (standing_of r a)) next
          ∙ rw (← member.number a, ← member.standing refl a);
      standing = λ a. u.standing a ∙ ap (standing_behind (standing_of r a)) next ∙ rw (← member.standing refl a);
      sound = member.sound;
      counted = let c = u.counted in let n = ap length next in omega (arith, c, n);
    }

-- there is room to count it
pub underway_counted : (octets : List ℕ) {r₀ r : Receiver} {left rest : List (List ℕ)} {place : ℕ} {m : List ℕ}
    → Underway r₀ (parts_in octets) place left r → left ≡ m ∷ rest → place < length octets
underway_counted octets u next =
    let few = parts_count (length octets) octets (le_refl (length octets)) in
    let c = u.counted in
    let n = ap length next in
    omega (arith, few, c, n)
