-- Laws of what waits in the listing's input: octets let go at the front, and read behind.
use Rattle.std.proofs.Common.{ℕ, ◌+◌, ◌-◌, ◌≤◌, ◌≡◌, List, [], ◌++◌, length, take, drop, slice_range, Option, None, Some, refl, sym, ap, ◌∙◌, arith, append_assoc, append-nil, length-take}
use native.Mathlib.Nat.{sub-zero, add-zero}
use Rattle.std.proofs.lemmas.List.{drop-take, take-append-le}
use Rattle.std.proofs.Math.Seq.{take-append-add, drop-drop}
use Rattle.lines.specs.Reading.{counted_of}
use Rattle.std.specs.Io.KnownBytes.{Consumes, Keeps, prepend_known}

-- octets let go
pub let_go : (octets : List ℕ) (start end count : ℕ) → start ≤ end → count ≤ end - start → slice_range octets (start + count) end ≡ drop count (slice_range octets start end)
let_go octets start end count h k =
    let n : end - start ≡ count + (end - (start + count)) = omega (arith, h, k) in
    rw (n, drop-take count (end - (start + count)) (drop start octets), drop-drop count start octets) refl

-- a place of which all behind e was lent, and n octets written there
pub read_behind : (octets part rest : List ℕ) (e n : ℕ) → e ≤ length octets → n ≤ length part → take (e + n) (take e octets ++ (part ++ rest)) ≡ take e octets ++ take n part
read_behind octets part rest e n h k =
    let count : length (take e octets) ≡ e = rw length-take (omega (arith, h)) in
    let all = rw count at (take-append-add (take e octets) (part ++ rest) n) in
    rw (take-append-le n part rest k) at all

pub waits_behind : (octets part rest : List ℕ) (start e n : ℕ) (w : List ℕ) → start ≡ 0 → e ≤ length octets → n ≤ length part → slice_range octets start e ≡ w → slice_range (take e octets ++ (part ++ rest)) start (e + n) ≡ w ++ take n part
waits_behind octets part rest start e n w first h k waiting =
    let front : take e octets ≡ w = rw (first, sub-zero) at waiting in
    rw (first, sub-zero) (read_behind octets part rest e n h k ∙ ap (λ l. l ++ take n part) front)

pub waits_still : (octets part rest : List ℕ) (start e : ℕ) (w : List ℕ) → start ≡ 0 → e ≤ length octets → slice_range octets start e ≡ w → slice_range (take e octets ++ (part ++ rest)) start e ≡ w
waits_still octets part rest start e w first h waiting =
    let none : 0 ≤ length part = omega arith in
    rw (add-zero, append-nil) at (waits_behind octets part rest start e 0 w first h none waiting)

-- what waits at the front leaves the rest of its place
pub ends_at : (octets : List ℕ) (start e : ℕ) (w : List ℕ) → start ≡ 0 → e ≤ length octets → slice_range octets start e ≡ w → e ≡ length w
ends_at octets start e w first h waiting =
    let front : take e octets ≡ w = rw (first, sub-zero) at waiting in
    rw (← front, length-take) (omega (arith, h))

-- nothing more is read: what is to be listed stays
pub still : (a b : Option (List ℕ)) (w w' : List ℕ) → w' ≡ w → Keeps a b → Keeps (prepend_known w a) (prepend_known w' b)
still None b w w' e k = tt
still (Some x) None w w' e k = absurd k
still (Some x) (Some y) w w' e k = rw (e, k) refl

-- what is read waits behind what waited: what is to be listed stays
pub gained : (a b : Option (List ℕ)) (w w' more : List ℕ) → w' ≡ w ++ more → Consumes a b more → Keeps (prepend_known w a) (prepend_known w' b)
gained None b w w' more e k = tt
gained (Some x) None w w' more e k = absurd k
gained (Some x) (Some y) w w' more e k = rw (e, k) (append_assoc w more y)

pub kept_none : (left : Option (List ℕ)) → Keeps left left
kept_none None = tt
kept_none (Some xs) = refl

pub kept_more : (a b c : Option (List ℕ)) → Keeps a b → Keeps b c → Keeps a c
kept_more None b c k l = tt
kept_more (Some x) None c k l = absurd k
kept_more (Some x) (Some y) None k l = absurd l
kept_more (Some x) (Some y) (Some z) k l = l ∙ k

-- no octet more
pub none_more : (w part w' : List ℕ) (n : ℕ) → w' ≡ w ++ take n part → n ≡ 0 → w' ≡ w
none_more w part w' n e none = rw (none, append-nil) at e

-- where nothing waited, what waits behind a read is what the reader gave
pub read_of : (a b : Option (List ℕ)) (w w' more : List ℕ) → w ≡ [] → w' ≡ w ++ more → Keeps (prepend_known w a) (prepend_known w' b) → Consumes a b w'
read_of None b w w' more none e k = tt
read_of (Some x) None w w' more none e k = absurd k
read_of (Some x) (Some y) w w' more none e k = sym (rw none at k)

-- nothing waits between a place and itself
pub nothing : (octets : List ℕ) (e : ℕ) → slice_range octets e e ≡ []
nothing octets e = let none : e - e ≡ 0 = omega arith in rw none refl

pub counted_more : (before count a b : ℕ) → count ≡ counted_of before a → counted_of count b ≡ counted_of before (a + b)
counted_more before count a b e = rw e (omega arith)
