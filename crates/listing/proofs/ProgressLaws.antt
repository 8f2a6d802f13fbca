-- Laws of the listing on its way: how it begins, and what a message more adds.
use Rattle.std.proofs.Common.{ℕ, ◌+◌, ◌<◌, ◌≡◌, List, [], ◌∷◌, ◌++◌, length, take, drop, Option, None, Some, IfSome, Result, Ok, Err, MatchResult, OnOk, ◌⊎◌, inl, inr, ⊎_elim, ◌≤◌, IsOk, IsErr, Bool, true, false, true≢false, eqb-true, not, lt-ltb, refl, sym, ap, subst, ◌∙◌, arith, append_assoc, append-nil, length-append, zero-add, ltb-false, take-append-drop}
use Rattle.std.specs.Io.KnownBytes.{Consumes, Keeps, Appends, IsAtEnd, prepend_known, append_known}
use Rattle.receiver.specs.Slices.{Slices, lent, lengths}
use Rattle.receiver.specs.Meters.{sums}
use Rattle.receiver.specs.Contract.{Started, Answered}
use Rattle.receiver.specs.Stream.{entry_of}
use Rattle.receiver.specs.declared.Receiver.{Receiver}
use Rattle.receiver.specs.declared.Outcome.{Outcome}
use Rattle.lines.specs.Lines.{reply_line}
use Rattle.lines.specs.Reading.{StandsFirst, goes_on, lists_on, largest, counted_all}
use Rattle.lines.specs.declared.reading.Next.{Next}
use Rattle.lines.specs.declared.reading.Next.TheVariants.{Message, Cut, End}
use Rattle.lines.proofs.ReadingLaws.{consumed, consumed_all, taken_whole}
use Rattle.lines.proofs.RunLaws.{ran_begun, ran_more, ran_listed}
use Rattle.listing.specs.declared.output.Output.{Output}
use Rattle.listing.specs.declared.input.Input.{Input}
use Rattle.listing.specs.Waiting.{waiting_in, unlisted}
use Rattle.listing.specs.Writing.{collected, held, Stays, Puts}
use Rattle.listing.specs.Counting.{Counted}
use Rattle.listing.specs.Progress.{Progress, AllRead}

-- ---- texts put one after the other

appended : (a b c : Option (List ℕ)) (xs ys : List ℕ) → Appends a b xs → Appends b c ys → Appends a c (xs ++ ys)
appended None b c xs ys p q = tt
appended (Some x) None c xs ys p q = absurd p
appended (Some x) (Some y) None xs ys p q = absurd q
appended (Some x) (Some y) (Some z) xs ys p q = q ∙ ap (λ l. l ++ ys) p ∙ append_assoc x xs ys

appended_none : (a : Option (List ℕ)) → Appends a a []
appended_none None = tt
appended_none (Some xs) = sym (append-nil xs)

stays : {W E : Type 0} (o : Output W E) → Stays o o
stays o = record { to = refl; text = refl; end = refl; written = refl; told = refl }

stays_on : {W E : Type 0} (o₀ o₁ o₂ : Output W E) → Stays o₀ o₁ → Stays o₁ o₂ → Stays o₀ o₂
stays_on o₀ o₁ o₂ p q = record { to = q.to ∙ p.to; text = q.text ∙ p.text; end = q.end ∙ p.end; written = q.written ∙ p.written; told = q.told ∙ p.told }

-- nothing is put to an output that stays
pub put_none : {W E : Type 0} (contents : W → Option (List ℕ)) (o₀ o₁ : Output W E) → Stays o₀ o₁ → Puts contents o₀ [] o₁
put_none contents o₀ o₁ p =
    record {
      added = λ ok. (rw p.written at ok, rw (p.to, p.end, p.text) (appended_none (held contents o₀)));
      given_up = λ failed. p;
    }

pub put_start : {W E : Type 0} (contents : W → Option (List ℕ)) (o : Output W E) → Puts contents o [] o
put_start contents o = put_none contents o o (stays o)

pub put_more : {W E : Type 0} (contents : W → Option (List ℕ)) (o₀ o₁ o₂ : Output W E) (t u : List ℕ) → Puts contents o₀ t o₁ → Puts contents o₁ u o₂ → Puts contents o₀ (t ++ u) o₂
put_more contents o₀ o₁ o₂ t u p q =
    record {
      added = λ ok. let b = q.added ok in let a = p.added b.0 in (a.0, appended (held contents o₀) (held contents o₁) (held contents o₂) t u a.1 b.1);
      given_up = λ failed. let same = p.given_up failed in stays_on o₀ o₁ o₂ same (q.given_up (rw same.written failed));
    }

-- what is collected is written out
pub put_out : {W E : Type 0} (contents : W → Option (List ℕ)) (o₀ o₁ o₂ : Output W E) (t : List ℕ) → Puts contents o₀ t o₁ → Puts contents o₁ [] o₂ → Puts contents o₀ t o₂
put_out contents o₀ o₁ o₂ t p q = rw append-nil at (put_more contents o₀ o₁ o₂ t [] p q)

-- ---- the messages one after the other

pub not_ok : {T E : Type 0} (r : Result T E) (x : T) → IsErr r → r ≡ Ok x → ⊥
not_ok r x failed e = let Failed : Result _ _ → Type 0 = IsErr in true≢false (sym (subst Failed e failed))

on_ok : {T E A B : Type 0} (r : Result T E) → (A → B) → OnOk r A → OnOk r B
on_ok (Ok x) f h = f h
on_ok (Err e) f h = tt

pub failed_with : {T E : Type 0} (r : Result T E) (P : T → Type 0) (Q : Type 0) → IsErr r → Q → MatchResult r P (λ _. Q)
failed_with (Ok x) P Q failed q = absurd (true≢false (sym failed))
failed_with (Err e) P Q failed q = q

pub whole_there : (next : Next) (waiting : List ℕ) (count : ℕ) → StandsFirst next waiting → lists_on next count ≡ true → goes_on (entry_of waiting) count ≡ true
whole_there Message waiting count h e = rw (lt-ltb 0 (entry_of waiting) h) e
whole_there Cut waiting count h e = absurd (true≢false (sym e))
whole_there End waiting count h e = absurd (true≢false (sym e))

consumed_none : (left : Option (List ℕ)) → Consumes left left []
consumed_none None = tt
consumed_none (Some xs) = refl

consumed_kept : (a b c : Option (List ℕ)) (xs : List ℕ) → Consumes a b xs → Keeps b c → Consumes a c xs
consumed_kept None b c xs p k = tt
consumed_kept (Some x) None c xs p k = absurd p
consumed_kept (Some x) (Some y) None xs p k = absurd k
consumed_kept (Some x) (Some y) (Some z) xs p k = rw k p

-- nothing is listed yet
pub begins : (left : Option (List ℕ)) {Put : List ℕ → Type 0} (o : Outcome) → Started (sums 0 0 0) o → (assembly : List ℕ) → Put [] → Progress left left Put o.receiver assembly 0
begins left o started assembly put =
    record { octets = []; messages = []; lines = []; ran = ran_begun o started assembly []; counted = refl; given = consumed_none left; put = put }

-- what waits changes no more than its place
pub waits_on : {left₀ left₁ left₂ : Option (List ℕ)} {Put Put' : List ℕ → Type 0} {r : Receiver} {assembly : List ℕ} {count : ℕ}
    → Progress left₀ left₁ Put r assembly count → Keeps left₁ left₂ → ((text : List ℕ) → Put text → Put' text) → Progress left₀ left₂ Put' r assembly count
waits_on {left₀} {left₁} {left₂} p kept put =
    record { octets = p.octets; messages = p.messages; lines = p.lines; ran = p.ran; counted = p.counted; given = consumed_kept left₀ left₁ left₂ p.octets p.given kept; put = put p.lines p.put }

-- a message more, the one at the front of what waits
pub goes : {left₀ left₁ left₂ : Option (List ℕ)} {Put Put' : List ℕ → Type 0} {r : Receiver} {assembly : List ℕ} {count : ℕ}
    → Progress left₀ left₁ Put r assembly count → (m : List ℕ) → 0 < entry_of m → entry_of m ≡ length m → Consumes left₁ left₂ m
    → (s₀ s₁ : Slices) (o : Outcome) → lengths s₀ ≡ lent 12000 1024 65536 → s₀.assembly ≡ assembly → Answered r m s₀ o s₁
    → ((text : List ℕ) → Put text → Put' (text ++ reply_line o.reply))
    → Progress left₀ left₂ Put' o.receiver s₁.assembly (count + 1)
goes {left₀} {left₁} {left₂} {count = count} p m some all given s₀ s₁ o room same answered put =
    record {
      octets = p.octets ++ m;
      messages = p.messages ++ (m ∷ []);
      lines = p.lines ++ reply_line o.reply;
      ran = ran_listed (ran_more p.ran m) some all s₀ s₁ o room same answered;
      counted = rw (length-append, p.counted) refl;
      given = consumed left₀ left₁ left₂ p.octets m p.given given;
      put = put p.lines p.put;
    }

-- octets taken from the front of what waits are taken from what is to be listed
pub taken : (known : Option (List ℕ)) (count : ℕ) (waiting : List ℕ) → Consumes (prepend_known waiting known) (prepend_known (drop count waiting) known) (take count waiting)
taken None count waiting = tt
taken (Some xs) count waiting = ap (λ l. l ++ xs) (sym (take-append-drop count waiting)) ∙ append_assoc (take count waiting) (drop count waiting) xs

-- a message more, taken whole from the front of what waits
pub goes_waiting : {left₀ : Option (List ℕ)} {Put Put' : List ℕ → Type 0} {r : Receiver} {assembly : List ℕ} {count : ℕ} (known known' : Option (List ℕ)) (waiting waiting' m : List ℕ) (size : ℕ)
    → Progress left₀ (prepend_known waiting known) Put r assembly count
    → size ≡ entry_of waiting → 0 < size → m ≡ take size waiting → waiting' ≡ drop size waiting → known' ≡ known
    → (s₀ s₁ : Slices) (o : Outcome) → lengths s₀ ≡ lent 12000 1024 65536 → s₀.assembly ≡ assembly → Answered r m s₀ o s₁
    → ((text : List ℕ) → Put text → Put' (text ++ reply_line o.reply))
    → Progress left₀ (prepend_known waiting' known') Put' o.receiver s₁.assembly (count + 1)
goes_waiting {r = r} known known' waiting waiting' m size p is some front rest same_known s₀ s₁ o room same answered put =
    let whole = taken_whole waiting (rw is at some) in
    let told : Answered r (take (entry_of waiting) waiting) s₀ o s₁ = rw (front, is) at answered in
    rw (same_known, rest, is) (goes p (take (entry_of waiting) waiting) whole.0 whole.1 (taken known (entry_of waiting) waiting) s₀ s₁ o room same told put)

pub cut_or_many : (next : Next) (waiting : List ℕ) (messages : ℕ) → (next ≡ End → ⊥) → StandsFirst next waiting → lists_on next messages ≡ false
    → (more : List ℕ) → (entry_of (waiting ++ more) ≡ 0) ⊎ (largest ≤ messages)
cut_or_many Message waiting messages other h e more = inr (ltb-false messages largest e)
cut_or_many Cut waiting messages other h e more = inl (h more)
cut_or_many End waiting messages other h e more = absurd (other refl)

-- what waits, and what the reader gives behind it, is taken from what is to be listed
waited : (left₁ left₂ : Option (List ℕ)) (waiting xs : List ℕ) → Consumes left₁ left₂ xs → Consumes (prepend_known waiting left₁) left₂ (waiting ++ xs)
waited None left₂ waiting xs given = tt
waited (Some x) None waiting xs given = absurd given
waited (Some x) (Some y) waiting xs given = ap (λ l. waiting ++ l) given ∙ sym (append_assoc waiting xs y)

waited_all : (left : Option (List ℕ)) (waiting xs : List ℕ) → IfSome left (λ all. all ≡ xs) → IfSome (prepend_known waiting left) (λ all. all ≡ waiting ++ xs)
waited_all None waiting xs h = tt
waited_all (Some x) waiting xs h = ap (λ l. waiting ++ l) h

-- what is cut, or left behind the last of 2^64 - 1 messages, is counted with what is read behind it
pub counts : {T E : Type 0} {left₀ left₁ left₂ : Option (List ℕ)} (waiting : List ℕ) {Put : List ℕ → Type 0} {r : Receiver} {assembly : List ℕ} {messages count : ℕ} {read : Result T E}
    → Progress left₀ (prepend_known waiting left₁) Put r assembly messages → ((more : List ℕ) → (entry_of (waiting ++ more) ≡ 0) ⊎ (largest ≤ messages))
    → Counted left₁ left₂ (length waiting) count read → AllRead left₀ left₂ Put r count read
counts {left₀ = left₀} {left₁} {left₂} waiting {assembly = assembly} {count = count} {read = read} p cut k =
    let rest = waiting ++ k.octets in
    let given = waited left₁ left₂ waiting k.octets k.given in
    record {
      octets = p.octets ++ rest;
      messages = p.messages;
      assembly = assembly;
      rest = rest;
      lines = p.lines;
      ran = ran_more p.ran rest;
      whole = rw p.counted (cut k.octets);
      counted = rw (length-append, zero-add, k.counted) refl;
      given = consumed left₀ (prepend_known waiting left₁) left₂ p.octets rest p.given given;
      put = p.put;
      all = on_ok read (⊎_elim (λ h. inl (consumed_all left₀ (prepend_known waiting left₁) p.octets rest p.given (waited_all left₁ waiting k.octets h)))
          (λ h. inr (rw (length-append, length-append) (omega (arith, h, k.counted))))) k.all;
    }

nothing_left : (left : Option (List ℕ)) → IsAtEnd left → IfSome left (λ all. all ≡ [])
nothing_left None h = tt
nothing_left (Some xs) h = h

-- fewer octets than a message has wait, and no more come
pub ends : {T E : Type 0} {left₀ left : Option (List ℕ)} (waiting : List ℕ) {Put : List ℕ → Type 0} {r : Receiver} {assembly : List ℕ} {messages : ℕ}
    → Progress left₀ (prepend_known waiting left) Put r assembly messages → entry_of waiting ≡ 0 → length waiting ≤ largest → (read : Result T E) → OnOk read (IsAtEnd left)
    → AllRead left₀ left Put r (length waiting) read
ends {left₀ = left₀} {left} waiting {assembly = assembly} p none few read end =
    record {
      octets = p.octets ++ waiting;
      messages = p.messages;
      assembly = assembly;
      rest = waiting;
      lines = p.lines;
      ran = ran_more p.ran waiting;
      whole = inl none;
      counted = rw zero-add (omega (arith, few));
      given = rw append-nil at (consumed left₀ (prepend_known waiting left) left p.octets (waiting ++ []) p.given (waited left left waiting [] (consumed_none left)));
      put = p.put;
      all = on_ok read (λ h. inl (consumed_all left₀ (prepend_known waiting left) p.octets waiting p.given (rw append-nil at (waited_all left waiting [] (nothing_left left h))))) end;
    }

at_end : (left₁ left₂ : Option (List ℕ)) (more : List ℕ) → Consumes left₁ left₂ more → IsAtEnd left₂ → IfSome left₁ (λ all. all ≡ more)
at_end None left₂ more given end = tt
at_end (Some x) None more given end = absurd given
at_end (Some x) (Some y) more given end = rw (end, append-nil) at given

-- the count ends where a read gave nothing, which then is all, or where it can be no larger
pub count_ends : (left₀ left₁ left₂ : Option (List ℕ)) (before more : List ℕ) (count : ℕ) (came : Bool) → Consumes left₀ left₁ before → Consumes left₁ left₂ more → (came ≡ false → IsAtEnd left₂)
    → counted_all count (not came) ≡ true → IfSome left₀ (λ all. all ≡ before ++ more) ⊎ (count ≡ largest)
count_ends left₀ left₁ left₂ before more count false given then end e = inl (consumed_all left₀ left₁ before more given (at_end left₁ left₂ more then (end refl)))
count_ends left₀ left₁ left₂ before more count true given then end e = inr (eqb-true count largest e)

-- ---- a reader and a writer of which nothing is read and written yet

nothing_before : (known : Option (List ℕ)) → prepend_known [] known ≡ known
nothing_before None = refl
nothing_before (Some xs) = refl

nothing_behind : (known : Option (List ℕ)) → append_known known [] ≡ known
nothing_behind None = refl
nothing_behind (Some xs) = ap Some (append-nil xs)

pub reader_begins : {R : Type 0} (remaining : R → Option (List ℕ)) (i : Input R) (from : R) → i.from ≡ from → waiting_in i ≡ [] → unlisted remaining i ≡ remaining from
reader_begins remaining i from is empty = rw (is, empty) (nothing_before (remaining from))

writer_begins : {W E : Type 0} (contents : W → Option (List ℕ)) (o : Output W E) → collected o ≡ [] → held contents o ≡ contents o.to
writer_begins contents o empty = rw empty (nothing_behind (contents o.to))

where_ok : {T E A : Type 0} (r : Result T E) → (IsOk r → A) → OnOk r A
where_ok (Ok x) f = f refl
where_ok (Err e) f = tt

is_there : {T E A : Type 0} (r : Result T E) → IsOk r → OnOk r A → A
is_there (Ok x) ok h = h
is_there (Err e) ok h = absurd (true≢false (sym ok))

-- what was put stands behind what the writer held before, once all is written out
pub put_all : {W E : Type 0} (contents : W → Option (List ℕ)) (o₀ o₁ : Output W E) (text : List ℕ) → collected o₀ ≡ [] → Puts contents o₀ text o₁
    → OnOk o₁.written (o₁.end ≡ 0) → OnOk o₁.written (Appends (contents o₀.to) (contents o₁.to) text)
put_all contents o₀ o₁ text empty p out =
    where_ok o₁.written (λ ok.
    let none : collected o₁ ≡ [] = rw (is_there o₁.written ok out) refl in
    rw (writer_begins contents o₀ empty, writer_begins contents o₁ none) at ((p.added ok).1))
