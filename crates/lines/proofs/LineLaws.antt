-- What `{}` writes of a line, and its end, are the line: the library's decimals are the definition's, for numbers of 64 bits.
use Rattle.std.proofs.Common.{ℕ, zero, suc, ◌+◌, ◌/◌, ◌%◌, ◌^◌, ◌<◌, ◌≤◌, ◌≡◌, List, [], ◌∷◌, ◌++◌, lt-ltb, le-ltb, ne_eqb, refl, sym, arith, append_assoc, append-nil}
use Rattle.std.specs.Fmt.{decimal as printed}
use Rattle.std.proofs.lemmas.Fmt.{AppendsLastDigit, decimal_from_appends, length-decimal-le}
use Rattle.io.specs.Digits.{last_digits}
use Rattle.receiver.specs.declared.Reply.{Reply}
use Rattle.receiver.specs.declared.Readings.{Readings}
use Rattle.lines.specs.Text.{places, decimal, spaced, line_of}
use Rattle.lines.specs.Lines.{reply_line, cut_line, meters_line, text_of}
use Rattle.lines.specs.declared.Line.TheVariants.{Answer, Cut, Meters}

digits_up_to : ℕ → ℕ → List ℕ
digits_up_to zero n = []
digits_up_to (suc k) n = last_digits 10 (places k n) n

by_digits : AppendsLastDigit digits_up_to
unfolding digits_up_to places
by_digits = record { one = one; more = more }
  where
    one : (k n : ℕ) → n < 10 → digits_up_to (suc k) n ≡ (48 + n) ∷ []
    one zero n h = let e : n % 10 ≡ n = omega arith in rw (e, lt-ltb n 10 h) refl
    one (suc k) n h = let e : n % 10 ≡ n = omega arith in rw (lt-ltb n 10 h, e, lt-ltb n 10 h) refl

    more : (k n : ℕ) → 10 ≤ n → digits_up_to (suc k) n ≡ digits_up_to k (n / 10) ++ ((48 + n % 10) ∷ [])
    more zero n h = let small : n % 10 < 10 = omega arith in rw (lt-ltb (n % 10) 10 small) refl
    more (suc k) n h = let small : n % 10 < 10 = omega arith in rw (le-ltb n 10 h, lt-ltb (n % 10) 10 small) refl

pub printed_decimal : (n : ℕ) → n < 2 ^ 64 → printed n ≡ decimal n
unfolding decimal digits_up_to
printed_decimal n h = sym (decimal_from_appends digits_up_to by_digits 20 n h (length-decimal-le 20 n (omega arith) (omega arith) h))

-- the numbers of a reply, and the readings, are of 64 bits at most
pub record Bounded (r : Reply) : Type 0 where
  pub channel : r.channel.0 < 2 ^ 64
  pub chunk_type : r.chunk_type < 2 ^ 64
  pub number : r.number < 2 ^ 64
  pub points : r.points < 2 ^ 64
  pub lit_points : r.lit_points < 2 ^ 64

-- texts with a space before each but the first, from the left or from the right
two : (s a b end : List ℕ) → a ++ s ++ b ++ end ≡ a ++ (s ++ b ++ []) ++ end
two s a b end = simp (append_assoc, append-nil)

four : (s a b c d end : List ℕ) → a ++ s ++ b ++ s ++ c ++ s ++ d ++ end ≡ a ++ (s ++ b ++ (s ++ c ++ (s ++ d ++ []))) ++ end
four s a b c d end = simp (append_assoc, append-nil)

five : (s a b c d e end : List ℕ) → a ++ s ++ b ++ s ++ c ++ s ++ d ++ s ++ e ++ end ≡ a ++ (s ++ b ++ (s ++ c ++ (s ++ d ++ (s ++ e ++ [])))) ++ end
five s a b c d e end = simp (append_assoc, append-nil)

pub answer_text : (r : Reply) → Bounded r → text_of (Answer r) ++ (10 ∷ []) ≡ reply_line r
unfolding line_of spaced
answer_text r h =
    rw (
      printed_decimal r.channel.0 h.channel,
      printed_decimal r.chunk_type h.chunk_type,
      printed_decimal r.number h.number,
      printed_decimal r.points h.points,
      printed_decimal r.lit_points h.lit_points,
    )
    (five (32 ∷ []) (decimal r.channel.0) (decimal r.chunk_type) (decimal r.number) (decimal r.points) (decimal r.lit_points) (10 ∷ []))

pub cut_text : (count : ℕ) → count < 2 ^ 64 → 0 < count → text_of (Cut count) ++ (10 ∷ []) ≡ cut_line count
unfolding line_of spaced
cut_text count h some =
    rw (printed_decimal count h, ne_eqb count 0 (omega arith)) (two (32 ∷ []) (99 ∷ 117 ∷ 116 ∷ []) (decimal count) (10 ∷ []))

pub meters_text : (r : Readings) → r.lit_time < 2 ^ 64 → r.points < 2 ^ 64 → r.lit_points < 2 ^ 64 → text_of (Meters r) ++ (10 ∷ []) ≡ meters_line r
unfolding line_of spaced
meters_text r a b c =
    rw (printed_decimal r.lit_time a, printed_decimal r.points b, printed_decimal r.lit_points c)
    (four (32 ∷ []) (109 ∷ 101 ∷ 116 ∷ 101 ∷ 114 ∷ 115 ∷ []) (decimal r.lit_time) (decimal r.points) (decimal r.lit_points) (10 ∷ []))
