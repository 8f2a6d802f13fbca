-- Laws of a text that is written from the front, a piece at a time.
use Prim.Native.Nat.{ℕ, ◌+◌, ◌-◌, ◌*◌, ◌<◌, ◌≤◌}
use native.Mathlib.Nat.{le_refl, add-zero}
use native.Mathlib.Numerals.{add-one}
use native.Mathlib.Omega.{arith}
use mathlib.Core.Path.{◌≡◌, refl, sym, ◌∙◌}
use mathlib.Core.List.{List, [], ◌∷◌, ◌++◌, append_assoc, append-nil}
use lib.ListN.{length, take, drop, get_or, set, length-append, length-take, take-append-drop, drop_of_length-le}
use lib.Seq.{take_all, take-suc, take-length, take-append_seam, drop-append_seam, drop-drop, set_split}
use borrow.Rule.Slice.PartMut.{mid_of, put_mid}
use Rattle.lines.specs.Text.{decimal, spaced, over, Front, Added}
use Rattle.lines.proofs.DecimalLaws.{decimal-short}

-- all that lies after a, as a part
rest : (a out : List ℕ) → mid_of (length a) (length (over a out) - length a) (over a out) ≡ drop (length a) out
rest a out =
    rw (drop-append_seam a (drop (length a) out))
    (take_all (length (over a out) - length a) (drop (length a) out) (simp length-append (omega arith)))

nothing_after : (a out : List ℕ) → drop (length (over a out) - length a) (drop (length a) (over a out)) ≡ []
nothing_after a out =
    rw (drop-append_seam a (drop (length a) out))
    (drop_of_length-le (drop (length a) out) {i = length (over a out) - length a} (simp length-append (omega arith)))

-- a stands at the front of the slice. What lies after it was lent, and b stands at the front of that: so a and b stand at the front.
pub front_more : (a b : List ℕ) {out₀ out part : List ℕ} {at r : ℕ} → Front a out₀ at out → Front b (mid_of at (length out - at) out) r part → Front (a ++ b) out₀ (at + r) (put_mid at (length out - at) out part)
front_more a b {out₀} fa fb =
    record {
      count = rw (fa.count, fb.count, length-append) refl;
      out =
          rw (
            fb.out,
            fa.count,
            fa.out,
            rest a out₀,
            nothing_after a out₀,
            take-append_seam a (drop (length a) out₀),
            drop-drop (length b) (length a) out₀,
            append-nil,
            length-append,
          )
          (sym (append_assoc a b _));
    }

-- nothing is written yet
pub front_none : (out : List ℕ) → Front [] out 0 out
front_none out = record { count = refl; out = refl }

-- an octet is stored
pub front_one : (out : List ℕ) (octet : ℕ) → 0 < length out → Front (octet ∷ []) out 1 (set out 0 octet)
front_one out octet h = record { count = refl; out = set_split out 0 octet h }

-- a text is copied
pub front_copy : (text src out part : List ℕ) (r : ℕ) → src ≡ text → r ≡ length src → part ≡ take (length src) src ++ drop (length src) out → Front text out r part
front_copy text src out part r e n q = record { count = rw (n, e) refl; out = rw (q, e, take-length) refl }

-- what lies before a place stands at the front
pub front_before : (at : ℕ) (out : List ℕ) → at ≤ length out → Front (take at out) out at out
front_before at out h =
    let count : length (take at out) ≡ at = rw length-take (omega arith) in
    record { count = sym count; out = rw count (sym (take-append-drop at out)) }

-- four texts, one after the other
pub front_joined : (a b c d : List ℕ) {out₀ out : List ℕ} {r : ℕ} → Front (a ++ b ++ c ++ d) out₀ r out → Front (a ++ (b ++ c ++ d)) out₀ r out
front_joined a b c d f =
    let same : a ++ (b ++ c ++ d) ≡ a ++ b ++ c ++ d = simp append_assoc in rw same f

-- a text that stands at the front after what lies before a place is added there
pub added : {text out₀ out : List ℕ} {at r : ℕ} → at ≤ length out₀ → r ≤ length out → Front (take at out₀ ++ text) out₀ r out → Added text at out₀ r out
added {text} {out₀} {out} {at} h fits f =
    let count : length (take at out₀ ++ text) ≡ at + length text = rw (length-append, length-take) (omega arith) in
    record { count = f.count ∙ count; out = rw count at f.out; fits = fits }

-- nothing is added
pub added_none : (at : ℕ) (out : List ℕ) → at ≤ length out → Added [] at out at out
added_none at out h =
    record {
      count = sym (add-zero at);
      out = rw (append-nil, add-zero) (sym (take-append-drop at out));
      fits = h;
    }

-- ---- numbers, each after a space

spaced-append : (a b : List ℕ) → spaced (a ++ b) ≡ spaced a ++ spaced b
unfolding spaced
spaced-append [] b = refl
spaced-append (n ∷ a) b = rw (spaced-append a b) (sym (append_assoc (32 ∷ decimal n) (spaced a) (spaced b)))

pub spaced-more : (ns : List ℕ) (i : ℕ) → i < length ns → spaced (take (i + 1) ns) ≡ spaced (take i ns) ++ (32 ∷ decimal (get_or ns i 0))
unfolding spaced
spaced-more ns i h = rw (add-one i, take-suc ns i 0 h, spaced-append) (rw append-nil refl)

pub spaced-short : (ns : List ℕ) → length (spaced ns) ≤ 21 * length ns
unfolding spaced
spaced-short [] = le_refl 0
spaced-short (n ∷ ns) = rw length-append (omega (arith, decimal-short n, spaced-short ns))
