-- Laws of the octets at the front of the input: when a message stands there, and what a reader's octets add.
use Rattle.std.proofs.Common.{ℕ, ◌≡◌, ◌<◌, ◌≤◌, Bool, true, false, cond, ◌||◌, List, [], ◌++◌, length, take, drop, Option, Some, None, IfSome, Result, OnErr, Ok, Err, refl, sym, ap, ◌∙◌, arith, ltb, lt-ltb, ltb-false, true≢false, append_assoc, length-append, length-take, take-append-drop}
use Rattle.std.proofs.Math.ListN.{get_or-append}
use Rattle.std.specs.Io.KnownBytes.{Consumes}
use Rattle.receiver.specs.Message.{total_size}
use Rattle.receiver.specs.Checks.{least_message}
use Rattle.receiver.specs.Stream.{is_cut, entry_of}
use Rattle.receiver.specs.StreamLaws.{whole, entry_more}
use Rattle.lines.specs.Reading.{Gained}

pub on_err : {T E P : Type 0} (r : Result T E) → P → OnErr r P
on_err (Ok x) p = tt
on_err (Err e) p = p

-- fewer than two octets are no message
pub few : (m : List ℕ) → length m < 2 → entry_of m ≡ 0
unfolding entry_of
few m h = rw (lt-ltb (length m) 2 h) refl

or-true : (a b : Bool) → (a || b || true) ≡ true
or-true true b = refl
or-true false true = refl
or-true false false = refl

-- nor are fewer than they claim
pub short : (m : List ℕ) → length m < total_size m → entry_of m ≡ 0
unfolding entry_of
short m h = rw (lt-ltb (length m) (total_size m) h, or-true (ltb (length m) 2) (ltb (total_size m) least_message)) refl

-- a message has the octets that it claims, and at least 8
pub record Claims (m : List ℕ) : Type 0 where
  pub size : entry_of m ≡ total_size m
  pub all : total_size m ≤ length m
  pub least : 8 ≤ total_size m

pub claims : (m : List ℕ) → 0 < entry_of m → Claims m
unfolding entry_of
claims m some = by_test (is_cut m) refl some
  where
    second : (a b c : Bool) → (a || b || c) ≡ false → b ≡ false
    second false false c e = refl
    second true b c e = absurd (true≢false e)
    second false true c e = absurd (true≢false e)

    by_test : (b : Bool) → is_cut m ≡ b → 0 < cond b 0 (total_size m) → Claims m
    by_test true e h = absurd (omega arith)
    by_test false e h =
        let w = whole m e in
        let least = ltb-false (total_size m) least_message (second (ltb (length m) 2) (ltb (total_size m) least_message) (ltb (length m) (total_size m)) e) in
        record { size = w.size; all = w.all; least = least }

-- octets that follow leave the size as it was claimed
pub size_kept : {a b : Option (List ℕ)} {m₀ m₁ : List ℕ} → Gained a b m₀ m₁ → 2 ≤ length m₀ → total_size m₁ ≡ total_size m₀
size_kept {m₀} g h =
    let first : 0 < length m₀ = omega arith in
    let second : 1 < length m₀ = omega arith in
    rw (g.after, get_or-append m₀ g.more 0 0 first, get_or-append m₀ g.more 0 1 second) refl

-- what two reads one after the other gave
pub consumed : (a b c : Option (List ℕ)) (xs ys : List ℕ) → Consumes a b xs → Consumes b c ys → Consumes a c (xs ++ ys)
consumed None b c xs ys p q = tt
consumed (Some x) None c xs ys p q = absurd p
consumed (Some x) (Some y) None xs ys p q = absurd q
consumed (Some x) (Some y) (Some z) xs ys p q = p ∙ ap (λ l. xs ++ l) q ∙ sym (append_assoc xs ys z)

-- and what is all of it
pub consumed_all : (a b : Option (List ℕ)) (xs ys : List ℕ) → Consumes a b xs → IfSome b (λ all. all ≡ ys) → IfSome a (λ all. all ≡ xs ++ ys)
consumed_all None b xs ys p q = tt
consumed_all (Some x) None xs ys p q = absurd p
consumed_all (Some x) (Some y) xs ys p q = p ∙ ap (λ l. xs ++ l) q

-- where nothing stood before, what was read is all that stands there
pub all_there : (a : Option (List ℕ)) (old new : List ℕ) → old ≡ [] → IfSome a (λ xs. new ≡ old ++ xs) → IfSome a (λ all. all ≡ new)
all_there None old new e h = tt
all_there (Some xs) old new e h = sym (rw e at h)

pub longer : {a b : Option (List ℕ)} {m₀ m₁ : List ℕ} → Gained a b m₀ m₁ → length m₀ ≤ length m₁
longer {m₀} g = rw (g.after, length-append) (omega arith)

-- octets at whose front stands a message of just their length are that message
whole_front : (m rest : List ℕ) → length m ≡ entry_of (m ++ rest) → 0 < entry_of (m ++ rest) → (0 < entry_of m) × (entry_of m ≡ length m)
whole_front m rest count some =
    let is = claims (m ++ rest) some in
    let two : 2 ≤ length m = omega (arith, is.size, is.least, count) in
    let first : 0 < length m = omega (arith, two) in
    let second : 1 < length m = omega (arith, two) in
    let size : total_size (m ++ rest) ≡ total_size m = rw (get_or-append m rest 0 0 first, get_or-append m rest 0 1 second) refl in
    let same : entry_of (m ++ rest) ≡ entry_of m = entry_more m rest two (omega (arith, size, is.size, count)) in
    (rw same at some, sym (count ∙ same))

-- the message at the front, taken from there
pub taken_whole : (octets : List ℕ) → 0 < entry_of octets → (0 < entry_of (take (entry_of octets) octets)) × (entry_of (take (entry_of octets) octets) ≡ length (take (entry_of octets) octets))
taken_whole octets some =
    let is = claims octets some in
    let parts : take (entry_of octets) octets ++ drop (entry_of octets) octets ≡ octets = take-append-drop (entry_of octets) octets in
    let count : length (take (entry_of octets) octets) ≡ entry_of octets = rw length-take (omega (arith, is.size, is.all)) in
    whole_front (take (entry_of octets) octets) (drop (entry_of octets) octets) (rw parts count) (rw parts some)
