-- Laws for the functions of the dictionary walk: whether an octet has a role; one word, by what becomes of it; and the whole.
use Rattle.std.specs.Prelude.{ℕ, zero, suc, ◌-◌, ◌<◌, List, [], ◌∷◌, ◌≡◌, ◌≤◌, ◌*◌, ◌+◌, length, get_or, take, drop, not, ◌&&◌, ◌||◌, Bool, true, false, eqb, Ok, Err}
use Rattle.std.specs.List.{list_any}
use Rattle.std.proofs.Common.{refl, sym, ap, ◌∙◌, eq-eqb, ne_eqb, arith}
use Rattle.samples.specs.Roles.{place_of, has}
use Rattle.samples.specs.RolesLaws.{has-cons}
use Rattle.std.proofs.Common.{add-zero}
use Rattle.std.proofs.lemmas.List.{get_or-take, get_or-drop, drop-drop}
use Rattle.tags.specs.Choice.{refuse, first}
use Rattle.tags.specs.ChoiceLaws.{first-zero_left, first-zero_right, refuse-zero}
use Rattle.tags.specs.Refusal.{refusal_number}
use Rattle.tags.specs.Tag.{takes_octet, defined_group, is_break, is_newer_hint, is_space, reserved_space, refused_tag}
use Rattle.tags.specs.TagView.{Reads, barred_by}
use Rattle.tags.specs.Dictionary.{DictionaryWalk, nothing_read, misplaced, repeated, tag_number, read, step, word_at, word_count, walked, end_number, dictionary_number, dictionary_sample}
use Rattle.std.specs.Simd.{first_chunks}
use Rattle.tags.specs.Layout.{layout_of, dictionary_checked}
use Rattle.tags.specs.CheckedView.{checked_of}
use Rattle.tags.specs.DictionaryView.{misplaced_by, repeated_by, passed}
use Rattle.tags.specs.declared.refusal.Refusal.{Refusal}
use Rattle.tags.specs.declared.refusal.Refusal.TheVariants.{OctetCount, Mode, Undefined, Barred, Misplaced, Repeated, Incomplete, BadDimmerTag, Clash}
use Rattle.std.proofs.Math.Dec.{lit<}
use Rattle.tags.specs.declared.tag.Tag as declared_tag
use Rattle.tags.proofs.TagLaws.{misplaced_same, barred_same, repeated_same, passed_same}

-- some role of the list is r
pub any_has : (r : ℕ) (l : List ℕ) → list_any (λ x. eqb x r) l ≡ has l r
unfolding place_of
any_has r [] = refl
any_has r (x ∷ xs) = ap (λ (b : Bool). eqb x r || b) (any_has r xs) ∙ sym (has-cons x xs r)

-- ---- one word

-- what check 9 refuses in mode 1 it refuses in every mode
barred_always : (w mode : ℕ) → refused_tag 1 w ≡ true → refused_tag mode w ≡ true
barred_always w mode = go (is_break w) (is_newer_hint w) (eqb w 0x4101) (not (eqb mode 1)) (is_space w && reserved_space w)
  where
    go : (x y z b v : Bool) → (x || y || z && false || v) ≡ true → (x || y || z && b || v) ≡ true
    go x y z b v h = grind arith

-- no refusal has the number 0
pub not-zero : (r : Refusal) → refusal_number r ≡ 0 → ⊥
not-zero OctetCount h = omega arith
not-zero Mode h = omega arith
not-zero Undefined h = omega arith
not-zero Barred h = omega arith
not-zero Misplaced h = omega arith
not-zero Repeated h = omega arith
not-zero Incomplete h = omega arith
not-zero BadDimmerTag h = omega arith
not-zero Clash h = omega arith

module _ (mode left w : ℕ) (s : DictionaryWalk) (none : s.refusal ≡ 0) where
  pub step-skipped : 0 < s.skip → record { refusal = 0; skip = s.skip - 1; allowed = s.allowed; sample = s.sample } ≡ step mode left w s
  unfolding step
  step-skipped h = rw (eq-eqb s.refusal 0 none, ne_eqb s.skip 0 (λ e. omega arith))

  module _ (unskipped : s.skip ≡ 0) where
    step-refused : (n : ℕ) → (n ≡ 0 → ⊥) → tag_number mode left w s ≡ n → nothing_read n ≡ step mode left w s
    unfolding step read
    step-refused n h e = rw (eq-eqb s.refusal 0 none, eq-eqb s.skip 0 unskipped, e, ne_eqb n 0 h)

    -- checks 8 and 9 of no mode but one
    pub step-unread : (r : Refusal) → Reads w (Err r) → nothing_read (refusal_number r) ≡ step mode left w s
    unfolding tag_number
    step-unread r h = step-refused (refusal_number r) (not-zero r) (go (not (defined_group w)) (refused_tag 1 w) h.0 (barred_always w mode))
      where
        go : (d b : Bool) → refusal_number r ≡ first (refuse d 8) (refuse b 9) → (b ≡ true → refused_tag mode w ≡ true)
            → first (refuse d 8)
            (first (refuse (refused_tag mode w) 9) (first (refuse (misplaced left w s.allowed) 10) (refuse (repeated w s.sample) 11)))
            ≡ refusal_number r
        go true b e f = sym e
        go false true e f = rw (f refl) (sym e)
        go false false e f = absurd (not-zero r e)

    module _ (t : declared_tag.Tag) (known : Reads w (Ok t)) where
      number_by : Bool → Bool → Bool → ℕ
      number_by barred wrong again = first (refuse barred 9) (first (refuse wrong 10) (refuse again 11))

      number_same : tag_number mode left w s ≡ number_by (barred_by t mode) (misplaced_by t left s.allowed) (repeated_by t (takes_octet w) s.sample)
      unfolding tag_number number_by
      number_same =
          let defined = refuse-zero (not (defined_group w)) 8 (lit< tt) (first-zero_left _ _ (sym known.0)) in
          let passes = refuse-zero (refused_tag 1 w) 9 (lit< tt) (first-zero_right (refuse (not (defined_group w)) 8) _ (sym known.0)) in
          rw (
            defined,
            barred_same w mode t known.1 passes,
            misplaced_same w left t s.allowed known.1,
            repeated_same w t s.sample known.1,
          )

      pub step-barred : true ≡ barred_by t mode → nothing_read 9 ≡ step mode left w s
      unfolding number_by
      step-barred b = step-refused 9 (λ e. omega arith) (rw (number_same, ← b))

      pub step-misplaced : false ≡ barred_by t mode → true ≡ misplaced_by t left s.allowed → nothing_read 10 ≡ step mode left w s
      unfolding number_by
      step-misplaced b m = step-refused 10 (λ e. omega arith) (rw (number_same, ← b, ← m))

      pub step-repeated : false ≡ barred_by t mode → false ≡ misplaced_by t left s.allowed → true ≡ repeated_by t (takes_octet w) s.sample
          → nothing_read 11 ≡ step mode left w s
      unfolding number_by
      step-repeated b m r = step-refused 11 (λ e. omega arith) (rw (number_same, ← b, ← m, ← r))

      pub step-passed : false ≡ barred_by t mode → false ≡ misplaced_by t left s.allowed → false ≡ repeated_by t (takes_octet w) s.sample
          → passed t (takes_octet w) s ≡ step mode left w s
      unfolding step read number_by
      step-passed b m r =
          passed_same w t s known.1
          ∙ rw (eq-eqb s.refusal 0 none, eq-eqb s.skip 0 unskipped, number_same, ← b, ← m, ← r)

-- ---- the whole

-- the walk over the words that are left, each of two octets
abbrev pub onward : ℕ → DictionaryWalk → List (List ℕ) → DictionaryWalk
onward mode s [] = s
onward mode s (w ∷ ws) = onward mode (step mode (length ws) (get_or w 0 0 * 256 + get_or w 1 0) s) ws

length-chunks : (n : ℕ) (xs : List ℕ) → length (first_chunks 2 n xs) ≡ n
length-chunks zero xs = refl
length-chunks (suc n) xs = ap suc (length-chunks n (drop 2 xs))

onward-more : (mode n i : ℕ) (tags : List ℕ) (s : DictionaryWalk)
    → onward mode s (first_chunks 2 (suc n) (drop (i * 2) tags)) ≡ onward mode (step mode n (word_at tags i) s) (first_chunks 2 n (drop (suc i * 2) tags))
onward-more mode n i tags s =
    let rest = drop (i * 2) tags in
    let high : get_or (take 2 rest) 0 0 ≡ get_or tags (i * 2) 0 =
    get_or-take 2 rest 0 0 (lit< tt) ∙ get_or-drop (i * 2) tags 0 0 ∙ ap (λ (k : ℕ). get_or tags k 0) (add-zero (i * 2)) in
    let low : get_or (take 2 rest) 1 0 ≡ get_or tags (i * 2 + 1) 0 = get_or-take 2 rest 1 0 (lit< tt) ∙ get_or-drop (i * 2) tags 1 0 in
    let next : i * 2 + 2 ≡ suc i * 2 = omega arith in
    let behind : drop 2 rest ≡ drop (suc i * 2) tags = drop-drop 2 (i * 2) tags ∙ ap (λ (k : ℕ). drop k tags) next in
    ap (λ (k : ℕ). onward mode (step mode k (get_or (take 2 rest) 0 0 * 256 + get_or (take 2 rest) 1 0) s) (first_chunks 2 n (drop 2 rest)))
    (length-chunks n (drop 2 rest))
    ∙ rw (high, low) (ap (λ (xs : List ℕ). onward mode (step mode n (word_at tags i) s) (first_chunks 2 n xs)) behind)

onward-from : (mode : ℕ) (tags : List ℕ) (n i : ℕ) → i + n ≡ word_count tags
    → onward mode (walked mode tags i) (first_chunks 2 n (drop (i * 2) tags)) ≡ walked mode tags (word_count tags)
unfolding walked
onward-from mode tags zero i e = let all : i ≡ word_count tags = omega arith in rw all
onward-from mode tags (suc n) i e =
    let left : n ≡ word_count tags - suc i = omega arith in
    onward-more mode n i tags (walked mode tags i)
    ∙ ap (λ (k : ℕ). onward mode (step mode k (word_at tags i) (walked mode tags i)) (first_chunks 2 n (drop (suc i * 2) tags))) left
    ∙ onward-from mode tags n (suc i) (omega arith)

pub onward-all : (mode : ℕ) (tags : List ℕ) → onward mode (nothing_read 0) (first_chunks 2 (word_count tags) tags) ≡ walked mode tags (word_count tags)
unfolding walked
onward-all mode tags = onward-from mode tags (word_count tags) 0 (omega arith)

-- with no word left the walk is at its end
pub last_word : (mode : ℕ) (s : DictionaryWalk) (ws : List (List ℕ)) (t : DictionaryWalk) → length ws < 1 → onward mode s ws ≡ t → s ≡ t
last_word mode s [] t h e = e
last_word mode s (w ∷ ws) t h e = absurd (omega arith)

-- a refusal stays to the end
stays : (mode n : ℕ) (ws : List (List ℕ)) → (n ≡ 0 → ⊥) → onward mode (nothing_read n) ws ≡ nothing_read n
unfolding step
stays mode n [] h = refl
stays mode n (w ∷ ws) h = rw (ne_eqb n 0 h) (stays mode n ws h)

module _ (mode : ℕ) (tags : List ℕ) (s : DictionaryWalk) (end : s ≡ walked mode tags (word_count tags)) where
  pub ends : end_number s ≡ 0 → record { number = 0; layout = layout_of s.sample } ≡ dictionary_checked mode tags
  unfolding dictionary_number dictionary_sample
  ends h = rw (← end, h)

  pub end_refused : (r : Refusal) → refusal_number r ≡ end_number s → checked_of (Err r) ≡ dictionary_checked mode tags
  unfolding dictionary_number dictionary_sample
  end_refused r h = rw (← end, ← h, ne_eqb _ 0 (not-zero r))

pub refused_at : (mode : ℕ) (tags : List ℕ) (s : DictionaryWalk) (ws : List (List ℕ)) (left w : ℕ) (r : Refusal) → 1 ≤ length ws
    → left ≡ length ws - 1 → w ≡ get_or (get_or ws 0 []) 0 0 * 256 + get_or (get_or ws 0 []) 1 0
    → onward mode s ws ≡ walked mode tags (word_count tags) → nothing_read (refusal_number r) ≡ step mode left w s
    → checked_of (Err r) ≡ dictionary_checked mode tags
unfolding end_number
refused_at mode tags s [] left w r some e f g h = absurd (omega arith)
refused_at mode tags s (x ∷ xs) left w r some e f g h =
    let last : left ≡ length xs = omega arith in
    let n = refusal_number r in
    let end : nothing_read n ≡ walked mode tags (word_count tags) =
    sym (stays mode n xs (not-zero r)) ∙ ap (λ (t : DictionaryWalk). onward mode t xs) (rw (last, f) at h) ∙ g in
    end_refused mode tags (nothing_read n) end r (rw (ne_eqb n 0 (not-zero r)))
