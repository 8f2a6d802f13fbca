-- Laws of messages laid end to end where only the first octets are there so far: what these decide, the whole decides alike. So a
-- program that reads bit by bit takes the same messages as one that has read all.
use Rattle.std.specs.Prelude.{ℕ, zero, suc, ◌+◌, ◌<◌, ◌≤◌, ◌≡◌, refl, Bool, true, false, cond, ◌||◌, List, [], ◌∷◌, ◌++◌, length, get_or, take, drop, ltb, eqb}
use Rattle.std.proofs.Common.{arith, zero-add, suc-add, le_refl, ap, ◌∙◌, true≢false, append_assoc, length-append, length-drop, take-append-drop, ltb-false, le-ltb, eqb-true, ne_eqb}
use Rattle.std.proofs.Math.ListN.{get_or-append}
use Rattle.std.proofs.lemmas.List.{take-append-le, drop-append-le}
use Rattle.std.proofs.Math.Seq.{take-length, drop-length}
use Rattle.std.proofs.Math.Dec.{eqb-suc-zero}
use Rattle.std.proofs.lemmas.Bool.{eqb-false}
use Rattle.receiver.specs.Message.{total_size}
use Rattle.receiver.specs.Checks.{least_message}
use Rattle.receiver.specs.Stream.{is_cut, entry_of, messages_in, left_in, parts_in, part_of}

-- the size is claimed by the first two octets
size-more : (m more : List ℕ) → 2 ≤ length m → total_size (m ++ more) ≡ total_size m
size-more m more h =
    let first : 0 < length m = omega arith in
    let second : 1 < length m = omega arith in
    rw (get_or-append m more 0 0 first, get_or-append m more 0 1 second) refl

-- octets after the claimed ones change nothing
pub entry_more : (m more : List ℕ) → 2 ≤ length m → total_size m ≤ length m → entry_of (m ++ more) ≡ entry_of m
unfolding entry_of
entry_more m more two all =
    rw (
      size-more m more two,
      le-ltb (length (m ++ more)) 2 (rw length-append (omega arith)),
      le-ltb (length m) 2 two,
      le-ltb (length (m ++ more)) (total_size m) (rw length-append (omega arith)),
      le-ltb (length m) (total_size m) all,
    )
    refl

-- with 65,536 octets, more than any size that two octets claim, it is decided: what is cut stays cut, whatever follows
pub cut_stays : (m more : List ℕ) → get_or m 0 0 < 256 → get_or m 1 0 < 256 → 65536 ≤ length m → entry_of m ≡ 0 → entry_of (m ++ more) ≡ 0
cut_stays m more high low long e = entry_more m more (omega arith) (omega arith) ∙ e

-- a message at the front has at least two octets, and as many as it claims
pub record Whole (m : List ℕ) : Type 0 where
  pub two : 2 ≤ length m
  pub all : total_size m ≤ length m
  pub size : entry_of m ≡ total_size m

pub whole : (m : List ℕ) → is_cut m ≡ false → Whole m
unfolding entry_of
whole m e =
    let tests = none (ltb (length m) 2) (ltb (total_size m) least_message) (ltb (length m) (total_size m)) e in
    record {
      two = ltb-false (length m) 2 tests.0;
      all = ltb-false (length m) (total_size m) tests.1;
      size = rw e refl;
    }
  where
    none : (a b c : Bool) → (a || b || c) ≡ false → (a ≡ false) × (c ≡ false)
    none false false c e = (refl, e)
    none true b c e = absurd (true≢false e)
    none false true c e = absurd (true≢false e)

entry_whole : (m : List ℕ) → eqb (entry_of m) 0 ≡ false → Whole m
unfolding entry_of
entry_whole m e = whole m (by_test (is_cut m) (eqb-false _ 0 e))
  where
    by_test : (b : Bool) → (cond b 0 (total_size m) ≡ 0 → ⊥) → b ≡ false
    by_test true h = absurd (h refl)
    by_test false h = refl

-- the messages that stand in the octets there so far are the first of the whole, and the others start where these leave off
pub messages-more : (k n : ℕ) (m more : List ℕ) → messages_in (length (messages_in k m) + n) (m ++ more) ≡ messages_in k m ++ messages_in n (left_in k m ++ more)
unfolding messages_in left_in
messages-more zero n m more = rw zero-add refl
messages-more (suc k) n m more =
    by_entry (eqb (entry_of m) 0) refl (messages-more k n (drop (entry_of m) m) more)
  where
    by_entry : (b : Bool) → eqb (entry_of m) 0 ≡ b → messages_in (length (messages_in k (drop (entry_of m) m)) + n) (drop (entry_of m) m ++ more) ≡ messages_in k (drop (entry_of m) m) ++ messages_in n (left_in k (drop (entry_of m) m) ++ more) → messages_in (length (cond b [] (take (entry_of m) m ∷ messages_in k (drop (entry_of m) m))) + n) (m ++ more) ≡ cond b [] (take (entry_of m) m ∷ messages_in k (drop (entry_of m) m)) ++ messages_in n (cond b m (left_in k (drop (entry_of m) m)) ++ more)
    by_entry true e later = rw zero-add refl
    by_entry false e later =
        let w = entry_whole m e in
        let fits : entry_of m ≤ length m = rw w.size w.all in
        rw (
          suc-add,
          entry_more m more w.two w.all,
          e,
          take-append-le (entry_of m) m more fits,
          drop-append-le (entry_of m) m more fits,
          later,
        )
        refl

-- and so is what they leave
pub left_more : (k n : ℕ) (m more : List ℕ) → left_in (length (messages_in k m) + n) (m ++ more) ≡ left_in n (left_in k m ++ more)
unfolding messages_in left_in
left_more zero n m more = rw zero-add refl
left_more (suc k) n m more =
    by_entry (eqb (entry_of m) 0) refl (left_more k n (drop (entry_of m) m) more)
  where
    by_entry : (b : Bool) → eqb (entry_of m) 0 ≡ b → left_in (length (messages_in k (drop (entry_of m) m)) + n) (drop (entry_of m) m ++ more) ≡ left_in n (left_in k (drop (entry_of m) m) ++ more) → left_in (length (cond b [] (take (entry_of m) m ∷ messages_in k (drop (entry_of m) m))) + n) (m ++ more) ≡ left_in n (cond b m (left_in k (drop (entry_of m) m)) ++ more)
    by_entry true e later = rw zero-add refl
    by_entry false e later =
        let w = entry_whole m e in
        let fits : entry_of m ≤ length m = rw w.size w.all in
        rw (suc-add, entry_more m more w.two w.all, e, drop-append-le (entry_of m) m more fits, later) refl

-- a message at the front is the first, whatever follows
pub first-message : (m more : List ℕ) → 0 < entry_of m
    → (messages_in 1 (m ++ more) ≡ take (entry_of m) m ∷ []) × (left_in 1 (m ++ more) ≡ drop (entry_of m) m ++ more)
unfolding messages_in left_in
first-message m more some =
    let e : eqb (entry_of m) 0 ≡ false = ne_eqb (entry_of m) 0 (omega arith) in
    let w = entry_whole m e in
    let fits : entry_of m ≤ length m = rw w.size w.all in (
      rw (entry_more m more w.two w.all, e, take-append-le (entry_of m) m more fits) refl,
      rw (entry_more m more w.two w.all, e, drop-append-le (entry_of m) m more fits) refl,
    )

-- ---- the messages and what is left are the octets, none lost and none twice

unfoldable pub joined : List (List ℕ) → List ℕ
joined [] = []
joined (m ∷ ms) = m ++ joined ms

pub messages-all : (k : ℕ) (m : List ℕ) → joined (messages_in k m) ++ left_in k m ≡ m
unfolding messages_in left_in joined
messages-all zero m = refl
messages-all (suc k) m = by_entry (eqb (entry_of m) 0) (messages-all k (drop (entry_of m) m))
  where
    by_entry : (b : Bool) → joined (messages_in k (drop (entry_of m) m)) ++ left_in k (drop (entry_of m) m) ≡ drop (entry_of m) m → joined (cond b [] (take (entry_of m) m ∷ messages_in k (drop (entry_of m) m))) ++ cond b m (left_in k (drop (entry_of m) m)) ≡ m
    by_entry true later = refl
    by_entry false later = rw (append_assoc, later) (take-append-drop (entry_of m) m)

-- ---- C-14: a list in one slice, part by part

-- where octets are too few for what is left of the bound, the bound does not count
pub messages-enough : (k n : ℕ) (m : List ℕ) → length m ≤ k → length m ≤ n → messages_in k m ≡ messages_in n m
unfolding messages_in entry_of
messages-enough zero zero m h g = refl
messages-enough zero (suc n) [] h g = refl
messages-enough zero (suc n) (x ∷ m) h g = absurd (omega (arith, h))
messages-enough (suc k) zero [] h g = refl
messages-enough (suc k) zero (x ∷ m) h g = absurd (omega (arith, g))
messages-enough (suc k) (suc n) m h g = by_entry (eqb (entry_of m) 0) refl (messages-enough k n (drop (entry_of m) m))
  where
    by_entry : (b : Bool) → eqb (entry_of m) 0 ≡ b
        → (length (drop (entry_of m) m) ≤ k → length (drop (entry_of m) m) ≤ n → messages_in k (drop (entry_of m) m) ≡ messages_in n (drop (entry_of m) m))
        → cond b [] (take (entry_of m) m ∷ messages_in k (drop (entry_of m) m)) ≡ cond b [] (take (entry_of m) m ∷ messages_in n (drop (entry_of m) m))
    by_entry true e later = refl
    by_entry false e later =
        let some = eqb-false (entry_of m) 0 e in
        let less : (j : ℕ) → length m ≤ suc j → length (drop (entry_of m) m) ≤ j = λ j q. rw length-drop (omega (arith, some, q)) in
        ap (λ (ms : List (List ℕ)). take (entry_of m) m ∷ ms) (later (less k h) (less n g))

pub left_enough : (k n : ℕ) (m : List ℕ) → length m ≤ k → length m ≤ n → left_in k m ≡ left_in n m
unfolding left_in entry_of
left_enough zero zero m h g = refl
left_enough zero (suc n) [] h g = refl
left_enough zero (suc n) (x ∷ m) h g = absurd (omega (arith, h))
left_enough (suc k) zero [] h g = refl
left_enough (suc k) zero (x ∷ m) h g = absurd (omega (arith, g))
left_enough (suc k) (suc n) m h g = by_entry (eqb (entry_of m) 0) refl (left_enough k n (drop (entry_of m) m))
  where
    by_entry : (b : Bool) → eqb (entry_of m) 0 ≡ b
        → (length (drop (entry_of m) m) ≤ k → length (drop (entry_of m) m) ≤ n → left_in k (drop (entry_of m) m) ≡ left_in n (drop (entry_of m) m))
        → cond b m (left_in k (drop (entry_of m) m)) ≡ cond b m (left_in n (drop (entry_of m) m))
    by_entry true e later = refl
    by_entry false e later =
        let some = eqb-false (entry_of m) 0 e in
        let less : (j : ℕ) → length m ≤ suc j → length (drop (entry_of m) m) ≤ j = λ j q. rw length-drop (omega (arith, some, q)) in
        later (less k h) (less n g)

-- what is left is cut, or nothing
pub left_cut : (k : ℕ) (m : List ℕ) → length m ≤ k → entry_of (left_in k m) ≡ 0
unfolding left_in entry_of
left_cut zero [] h = refl
left_cut zero (x ∷ m) h = absurd (omega (arith, h))
left_cut (suc k) m h = by_entry (eqb (entry_of m) 0) refl (left_cut k (drop (entry_of m) m))
  where
    by_entry : (b : Bool) → eqb (entry_of m) 0 ≡ b → (length (drop (entry_of m) m) ≤ k → entry_of (left_in k (drop (entry_of m) m)) ≡ 0)
        → entry_of (cond b m (left_in k (drop (entry_of m) m))) ≡ 0
    by_entry true e later = eqb-true (entry_of m) 0 e
    by_entry false e later = let some = eqb-false (entry_of m) 0 e in later (rw length-drop (omega (arith, some, h)))

-- no octets, no parts
pub parts_none : parts_in [] ≡ []
unfolding parts_in messages_in left_in
parts_none = refl

-- and else the part at the front, and those of the rest
pub parts_next : (octets : List ℕ) → 0 < length octets
    → parts_in octets ≡ take (part_of octets) octets ∷ parts_in (drop (part_of octets) octets)
unfolding parts_in messages_in left_in
parts_next [] some = absurd (omega (arith, some))
parts_next (x ∷ l) some = by_entry (eqb (entry_of m) 0) refl
  where
    m : List ℕ
    m = x ∷ l

    parts : List (List ℕ) → List ℕ → List (List ℕ)
    parts ms left = ms ++ cond (eqb (length left) 0) [] (left ∷ [])

    by_entry : (b : Bool) → eqb (entry_of m) 0 ≡ b
        → parts (cond b [] (take (entry_of m) m ∷ messages_in (length l) (drop (entry_of m) m))) (cond b m (left_in (length l) (drop (entry_of m) m)))
        ≡ take (cond b (length m) (entry_of m)) m ∷ parts_in (drop (cond b (length m) (entry_of m)) m)
    by_entry true e = rw (take-length m, drop-length m, parts_none, eqb-suc-zero (length l)) refl
    by_entry false e =
        let some = eqb-false (entry_of m) 0 e in
        let d = drop (entry_of m) m in
        let less : length d ≤ length l = rw length-drop (omega (arith, some)) in
        rw (messages-enough (length l) (length d) d less (le_refl (length d)), left_enough (length l) (length d) d less (le_refl (length d))) refl
