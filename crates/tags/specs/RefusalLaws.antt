-- Laws of the numbers that the checks of tags give: what holds of 0 and of 8 to 12 holds of every number of the dictionary check, and what
-- holds of 0, 13 and 14 of every number of the check of dimmer tags. The layer above needs no more of how they come about.
use Prim.Native.Nat.{ℕ, zero, suc, ◌-◌}
use Rattle.std.proofs.Math.Bool.{not}
use Rattle.std.specs.Prelude.{List, length, eqb}
use Rattle.tags.specs.Choice.{refuse}
use Rattle.tags.specs.ChoiceLaws.{cond-holds, refuse-holds, first_holds}
use Rattle.tags.specs.Tag.{defined_group, refused_tag}
use Rattle.tags.specs.Dictionary.{DictionaryWalk, misplaced, repeated, tag_number, read, step, word_at, word_count, walked, incomplete, end_number, dictionary_number}
use Rattle.tags.specs.Dimmer.{DimmerWalk, bad_dimmer_tag, clashing_tag, dimmer_tag_number, read_dimmer, step_dimmer, dimmed, dimmer_number}

-- ---- the dictionary check

module _ (P : ℕ → Type 0) (none : P 0) (p8 : P 8) (p9 : P 9) (p10 : P 10) (p11 : P 11) where
  abbrev Refused : DictionaryWalk → Type 0
  Refused s = P s.refusal

  tag_number-holds : (mode left w : ℕ) (s : DictionaryWalk) → P (tag_number mode left w s)
  unfolding tag_number
  tag_number-holds mode left w s =
      let undefined = not (defined_group w) in
      let refused = refused_tag mode w in
      let wrong = misplaced left w s.allowed in
      first_holds P (refuse undefined 8) _ (refuse-holds P undefined 8 none p8)
      (first_holds P (refuse refused 9) _ (refuse-holds P refused 9 none p9)
      (first_holds P (refuse wrong 10) _ (refuse-holds P wrong 10 none p10)
      (refuse-holds P (repeated w s.sample) 11 none p11)))

  step-holds : (mode left w : ℕ) (s : DictionaryWalk) → Refused s → Refused (step mode left w s)
  unfolding step read
  step-holds mode left w s h =
      cond-holds Refused (eqb s.refusal 0)
      (λ _.
      cond-holds Refused (eqb s.skip 0)
      (λ _. cond-holds Refused (eqb (tag_number mode left w s) 0) (λ _. none) (λ _. tag_number-holds mode left w s))
      (λ _. none))
      (λ _. h)

  walked-holds : (mode : ℕ) (tags : List ℕ) (i : ℕ) → Refused (walked mode tags i)
  unfolding walked
  walked-holds mode tags zero = none
  walked-holds mode tags (suc i) =
      step-holds mode (word_count tags - suc i) (word_at tags i) (walked mode tags i) (walked-holds mode tags i)

  pub dictionary_number-holds : P 12 → (mode : ℕ) (tags : List ℕ) → P (dictionary_number mode tags)
  unfolding dictionary_number end_number
  dictionary_number-holds p12 mode tags =
      let s = walked mode tags (word_count tags) in
      first_holds P s.refusal _ (walked-holds mode tags (word_count tags))
      (first_holds P (refuse s.allowed.waiting 10) _ (refuse-holds P s.allowed.waiting 10 none p10)
      (refuse-holds P (incomplete s.sample) 12 none p12))

-- ---- the check of dimmer tags

module _ (P : ℕ → Type 0) (none : P 0) (p13 : P 13) (p14 : P 14) where
  abbrev RefusedDimmer : DimmerWalk → Type 0
  RefusedDimmer s = P s.refusal

  dimmer_tag_number-holds : (tags : List ℕ) (i : ℕ) (s : DimmerWalk) → P (dimmer_tag_number tags i s.mapping)
  unfolding dimmer_tag_number
  dimmer_tag_number-holds tags i s =
      first_holds P (refuse (bad_dimmer_tag tags i) 13) _ (refuse-holds P (bad_dimmer_tag tags i) 13 none p13)
      (refuse-holds P (clashing_tag tags i s.mapping) 14 none p14)

  step_dimmer-holds : (tags : List ℕ) (i : ℕ) (s : DimmerWalk) → RefusedDimmer s → RefusedDimmer (step_dimmer tags i s)
  unfolding step_dimmer read_dimmer
  step_dimmer-holds tags i s h =
      cond-holds RefusedDimmer (eqb s.refusal 0)
      (λ _.
      cond-holds RefusedDimmer (eqb s.skip 0)
      (λ _. cond-holds RefusedDimmer (eqb (dimmer_tag_number tags i s.mapping) 0) (λ _. none) (λ _. dimmer_tag_number-holds tags i s))
      (λ _. none))
      (λ _. h)

  dimmed-holds : (tags : List ℕ) (i : ℕ) → RefusedDimmer (dimmed tags i)
  unfolding dimmed
  dimmed-holds tags zero = none
  dimmed-holds tags (suc i) = step_dimmer-holds tags i (dimmed tags i) (dimmed-holds tags i)

  pub dimmer_number-holds : (tags : List ℕ) → P (dimmer_number tags)
  unfolding dimmer_number
  dimmer_number-holds tags = dimmed-holds tags (length tags)
