-- Laws of the host's dictionary check: what it answers where its own two tests pass.
use Rattle.std.specs.Prelude.{ℕ, List, ◌≡◌, ◌%◌, Bool, true, false, cond, ◌&&◌, ◌||◌, length, leb, eqb}
use Rattle.std.proofs.Common.{refl}
use Rattle.std.proofs.lemmas.Bool.Decides.{nat_tests}
use Rattle.tags.specs.Limits.{tag_octet_limit}
use Rattle.tags.specs.Dictionary.{no_sample, walked, word_count, dictionary_number, dictionary_sample, host_number, host_sample}
use Rattle.tags.specs.Layout.{dictionary_checked, host_checked}

-- a refused dictionary describes no sample
accepted : (mode : ℕ) (tags : List ℕ)
    → cond (eqb (dictionary_number mode tags) 0) (dictionary_sample mode tags) no_sample ≡ dictionary_sample mode tags
unfolding dictionary_sample
accepted mode tags = go (eqb (dictionary_number mode tags) 0)
  where
    go : (b : Bool) → cond b (cond b (walked mode tags (word_count tags)).sample no_sample) no_sample ≡ cond b (walked mode tags (word_count tags)).sample no_sample
    go true = refl
    go false = refl

pub passes : (mode : ℕ) (tags : List ℕ) → (eqb mode 1 || eqb mode 2) ≡ true → (eqb (length tags % 2) 0 && leb (length tags) tag_octet_limit) ≡ true
    → dictionary_checked mode tags ≡ host_checked mode tags
unfolding host_number host_sample
passes mode tags e f = rw (e, f, accepted mode tags) refl

pub ruleset host_steps = (nat_tests, passes)
