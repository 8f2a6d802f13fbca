-- Laws of the dictionary check: a sample is within the limits of octets and colours.
use Rattle.std.specs.Prelude.{ℕ, zero, suc, ◌≤◌, Bool, true, false, cond, not, ◌&&◌, ◌||◌, List, [], ◌∷◌, ◌++◌, ◌≡◌, leb, eqb}
use Rattle.std.proofs.Common.{arith, leb-false, eqb-true, length-append}
use Rattle.std.proofs.Math.ListN.{length}
use Rattle.std.proofs.Math.Dec.{lit≤}
use Rattle.tags.specs.Limits.{octet_limit, colour_limit}
use Rattle.tags.specs.Choice.{refuse, first}
use Rattle.tags.specs.ChoiceLaws.{cond-holds, or-false_left, or-false_right, first-zero_right, refuse-zero}
use Rattle.tags.specs.Tag.{takes_octet, defined_group, is_colour, wavelength, refused_tag}
use Rattle.tags.specs.Dictionary.{Sample, DictionaryWalk, misplaced, repeated, tag_number, role_for, sample_with, read, step, walked, word_count, dictionary_number, dictionary_sample}

-- ---- a list with one element more

-- a list that grows only while it is shorter than n has at most n elements
length-grown : (b : Bool) (n : ℕ) (xs : List ℕ) (x : ℕ) → (b && leb n (length xs)) ≡ false → length xs ≤ n → length (cond b (xs ++ (x ∷ [])) xs) ≤ n
length-grown true n xs x p h = simp length-append (omega (arith, leb-false n (length xs) p))
length-grown false n xs x p h = h

-- ---- a tag that passes

-- no octet and no colour too many
module _ (w : ℕ) (s : Sample) where
  abbrev octets : Bool
  octets = takes_octet w && leb octet_limit (length s.roles)

  abbrev colours : Bool
  colours = is_colour w && leb colour_limit (length s.waves)

  unrepeated : repeated w s ≡ false → (octets || colours) ≡ false
  unfolding repeated
  unrepeated p = or-false_left (octets || colours) _ (or-false_left _ _ (or-false_left _ _ p))

  pub unrepeated-octet : repeated w s ≡ false → octets ≡ false
  unrepeated-octet p = or-false_left octets colours (unrepeated p)

  pub unrepeated-colour : repeated w s ≡ false → colours ≡ false
  unrepeated-colour p = or-false_right octets colours (unrepeated p)

pub passed-unrepeated : (mode left w : ℕ) (s : DictionaryWalk) → tag_number mode left w s ≡ 0 → repeated w s.sample ≡ false
unfolding tag_number
passed-unrepeated mode left w s p =
    let undefined = refuse (not (defined_group w)) 8 in
    let refused = refuse (refused_tag mode w) 9 in
    let wrong = refuse (misplaced left w s.allowed) 10 in
    let again = refuse (repeated w s.sample) 11 in
    refuse-zero (repeated w s.sample) 11 (lit≤ tt)
    (first-zero_right wrong again
    (first-zero_right refused (first wrong again)
    (first-zero_right undefined (first refused (first wrong again)) p)))

-- ---- the walk

-- what every walk keeps
record Kept (s : DictionaryWalk) : Type 0 where
  pub octets : length s.sample.roles ≤ octet_limit
  pub colours : length s.sample.waves ≤ colour_limit

read_kept : (mode left w : ℕ) (s : DictionaryWalk) → Kept s → Kept (read mode left w s)
unfolding read sample_with
read_kept mode left w s k =
    cond-holds Kept (eqb (tag_number mode left w s) 0)
    (λ e.
    let p = passed-unrepeated mode left w s (eqb-true _ _ e) in
    record {
      octets = length-grown (takes_octet w) octet_limit s.sample.roles (role_for w s) (unrepeated-octet w s.sample p) k.octets;
      colours = length-grown (is_colour w) colour_limit s.sample.waves (wavelength w) (unrepeated-colour w s.sample p) k.colours;
    })
    (λ _. record { octets = lit≤ tt; colours = lit≤ tt })

step_kept : (mode left w : ℕ) (s : DictionaryWalk) → Kept s → Kept (step mode left w s)
unfolding step
step_kept mode left w s k =
    cond-holds Kept (eqb s.refusal 0)
    (λ _.
    cond-holds Kept (eqb s.skip 0)
    (λ _. read_kept mode left w s k)
    (λ _. record { octets = k.octets; colours = k.colours }))
    (λ _. k)

walked-kept : (mode : ℕ) (tags : List ℕ) (i : ℕ) → Kept (walked mode tags i)
unfolding walked
walked-kept mode tags zero = record { octets = lit≤ tt; colours = lit≤ tt }
walked-kept mode tags (suc i) = step_kept mode _ _ _ (walked-kept mode tags i)

-- ---- the dictionary

module _ (mode : ℕ) (tags : List ℕ) where
  pub dictionary_sample-octets : length (dictionary_sample mode tags).roles ≤ octet_limit
  unfolding dictionary_sample
  dictionary_sample-octets =
      cond-holds (λ (s : Sample). length s.roles ≤ octet_limit) (eqb (dictionary_number mode tags) 0)
      (λ _. (walked-kept mode tags (word_count tags)).octets)
      (λ _. lit≤ tt)

  pub dictionary_sample-colours : length (dictionary_sample mode tags).waves ≤ colour_limit
  unfolding dictionary_sample
  dictionary_sample-colours =
      cond-holds (λ (s : Sample). length s.waves ≤ colour_limit) (eqb (dictionary_number mode tags) 0)
      (λ _. (walked-kept mode tags (word_count tags)).colours)
      (λ _. lit≤ tt)
