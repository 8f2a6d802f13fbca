-- Laws of what a layer above keeps (specs/Kept.antt): a record put into an area is read back, and what the checks of tags leave passes the
-- tests of its sizes.
use Rattle.std.specs.Prelude.{ℕ, zero, suc, ◌+◌, ◌*◌, ◌/◌, ◌%◌, ◌<◌, ◌≤◌, true, List, [], ◌∷◌, ◌++◌, map, ◌≡◌, refl, get_or, drop}
use Rattle.std.proofs.Common.{div-add-mod', le_trans, append-nil, append_assoc, sym, ap, ◌∙◌, length-append, length-take, length-drop, drop_of_length-le, take-suc, take_at, drop_at, get_or-append-add, get_or-take, get_or-drop, length-take-le, ext_get_or, lit≤, le-leb}
use native.Mathlib.Omega.{arith}
use Rattle.std.proofs.Math.ListN.{length, take, get_or-append}
use Rattle.std.proofs.lemmas.List.{length-map}
use Rattle.std.proofs.Math.Seq.{take-length}
use Rattle.tags.specs.Limits.{octet_limit, colour_limit, subset_limit}
use Rattle.tags.specs.Rows.{sample_octets}
use Rattle.tags.specs.Dictionary.{dictionary_sample}
use Rattle.tags.specs.DictionaryLaws.{dictionary_sample-octets, dictionary_sample-colours}
use Rattle.tags.specs.Dimmer.{base_of, count_of, dimmer_mapping}
use Rattle.tags.specs.DimmerLaws.{dimmer_mapping-ranged}
use Rattle.tags.specs.Layout.{sample_of, subsets_of, mapping_of, layout_of, dimmer_of}
use Rattle.tags.specs.LayoutLaws.{length-padded, sample_of-layout_of, mapping_of-dimmer_of}
use Rattle.tags.specs.Kept.{space_place, counts_place, base_place, area_size, word_at, words_at, sample_in, mapping_in, octets_of, sizes_fit, word_octets, octets_put, layout_put, dimmer_put}
use Rattle.tags.specs.declared.Layout.{Layout}
use Rattle.tags.specs.declared.Dimmer.{Dimmer}

-- ---- the octets of words

pub length-word_octets : (words : List ℕ) → length (word_octets words) ≡ length words * 2
unfolding word_octets
length-word_octets [] = refl
length-word_octets (w ∷ words) = omega (arith, length-word_octets words)

pub low-octet : (words : List ℕ) (k : ℕ) → get_or (word_octets words) (k * 2) 0 ≡ get_or words k 0 % 256
unfolding word_octets
low-octet [] k = refl
low-octet (w ∷ words) zero = refl
low-octet (w ∷ words) (suc k) = let e : suc k * 2 ≡ suc (suc (k * 2)) = omega arith in rw e (low-octet words k)

pub high-octet : (words : List ℕ) (k : ℕ) → get_or (word_octets words) (k * 2 + 1) 0 ≡ get_or words k 0 / 256
unfolding word_octets
high-octet [] k = refl
high-octet (w ∷ words) zero = refl
high-octet (w ∷ words) (suc k) = let e : suc k * 2 + 1 ≡ suc (suc (k * 2 + 1)) = omega arith in rw e (high-octet words k)

-- ---- words read: they are those of a list if each is, and the same in two areas that agree so far

words_read : (area words : List ℕ) (i n : ℕ) → n ≤ length words → ((k : ℕ) → k < n → word_at area (i + k * 2) ≡ get_or words k 0)
    → words_at area i n ≡ take n words
unfolding words_at
words_read area words i zero h f = refl
words_read area words i (suc n) h f =
    rw (
      take-suc words n 0 (omega arith),
      words_read area words i n (omega arith) (λ k l. f k (omega arith)),
      f n (omega arith),
    )

words_same : (area other : List ℕ) (i n : ℕ) → ((k : ℕ) → k < i + n * 2 → get_or area k 0 ≡ get_or other k 0)
    → words_at area i n ≡ words_at other i n
unfolding words_at
words_same area other i zero f = refl
words_same area other i (suc n) f =
    rw (
      words_same area other i n (λ k l. f k (omega arith)),
      f (i + n * 2) (omega arith),
      f (i + n * 2 + 1) (omega arith),
    )

-- ---- as many octets as an area has, put in from its start, are what it then is
pub put_whole : (area octets : List ℕ) → length area ≤ length octets → octets_put area 0 octets ≡ octets
put_whole area octets h = rw (drop_of_length-le area {i = 0 + length octets} (omega arith)) (append-nil octets)

-- ---- octets put in from a place on: what stands before them, there, and after them

module _ (area : List ℕ) (i : ℕ) (octets : List ℕ) (fits : i + length octets ≤ length area) where
  length_before : length (take i area) ≡ i
  length_before = length-take-le i area (omega arith)

  pub length-put : length (octets_put area i octets) ≡ length area
  length-put =
      simp (length-append, length-take, length-drop) (omega arith)

  pub put_before : (k : ℕ) → k < i → get_or (octets_put area i octets) k 0 ≡ get_or area k 0
  put_before k h =
      get_or-append (take i area ++ octets) (drop (i + length octets) area) 0 k (rw (length-append (take i area) octets, length_before) (omega arith))
      ∙ get_or-append (take i area) octets 0 k (rw length_before h)
      ∙ get_or-take i area k 0 h

  pub put_within : (k : ℕ) → k < length octets → get_or (octets_put area i octets) (i + k) 0 ≡ get_or octets k 0
  put_within k h =
      get_or-append (take i area ++ octets) (drop (i + length octets) area) 0 (i + k) (rw (length-append (take i area) octets, length_before) (omega arith))
      ∙ ap (λ (n : ℕ). get_or (take i area ++ octets) (n + k) 0) (sym length_before)
      ∙ get_or-append-add (take i area) octets k 0

  pub put_after : (k : ℕ) → get_or (octets_put area i octets) (i + length octets + k) 0 ≡ get_or area (i + length octets + k) 0
  put_after k =
      let front : length (take i area ++ octets) ≡ i + length octets =
      length-append (take i area) octets ∙ ap (λ (n : ℕ). n + length octets) length_before in
      ap (λ (n : ℕ). get_or (octets_put area i octets) (n + k) 0) (sym front)
      ∙ get_or-append-add (take i area ++ octets) (drop (i + length octets) area) k 0
      ∙ get_or-drop (i + length octets) area k 0

  -- what ends before them is read as it was
  words_kept : (p n : ℕ) → p + n * 2 ≤ i → words_at (octets_put area i octets) p n ≡ words_at area p n
  words_kept p n h = words_same (octets_put area i octets) area p n (λ k l. put_before k (omega arith))

  octets-kept : (p n : ℕ) → p + n ≤ i → take n (drop p (octets_put area i octets)) ≡ take n (drop p area)
  octets-kept p n h =
      ext_get_or 0 (take n (drop p (octets_put area i octets))) (take n (drop p area))
      (rw (length-take n (drop p (octets_put area i octets)), length-take n (drop p area), length-drop p (octets_put area i octets), length-drop p area, length-put))
      (λ k l.
      let low : k < n = omega (arith, length-take n (drop p (octets_put area i octets))) in
      rw (get_or-take n (drop p (octets_put area i octets)) k 0 low, get_or-take n (drop p area) k 0 low, get_or-drop p (octets_put area i octets) k 0, get_or-drop p area k 0)
      (put_before (p + k) (omega arith)))

  -- and they are read back
  pub octets_put_lem : (n : ℕ) → length octets ≡ n → take n (drop i (octets_put area i octets)) ≡ octets
  octets_put_lem n e =
      rw (append_assoc (take i area) octets (drop (i + length octets) area), drop_at (take i area) (octets ++ drop (i + length octets) area) i length_before)
      (take_at octets (drop (i + length octets) area) n e)

words_put : (area : List ℕ) (i : ℕ) (words : List ℕ) → i + length (word_octets words) ≤ length area
    → words_at (octets_put area i (word_octets words)) i (length words) ≡ words
words_put area i words fits =
    words_read put words i (length words) (omega arith) word ∙ take-length words
  where
    put : List ℕ
    put = octets_put area i (word_octets words)

    word : (k : ℕ) → k < length words → word_at put (i + k * 2) ≡ get_or words k 0
    word k l =
        let long = length-word_octets words in
        let low = put_within area i (word_octets words) fits (k * 2) (omega arith) ∙ low-octet words k in
        let high = put_within area i (word_octets words) fits (k * 2 + 1) (omega arith) ∙ high-octet words k in
        let place : i + k * 2 + 1 ≡ i + (k * 2 + 1) = omega arith in
        rw (place, low, high) (omega (arith, div-add-mod' (get_or words k 0) 256))

-- one word
word-put : (area : List ℕ) (i w : ℕ) → i + 2 ≤ length area → word_at (octets_put area i (word_octets (w ∷ []))) i ≡ w
unfolding words_at
word-put area i w fits =
    let long = length-word_octets (w ∷ []) in
    let first : i + 0 * 2 ≡ i = omega arith in
    rw first at (ap (λ (words : List ℕ). get_or words 0 0) (words_put area i (w ∷ []) (omega arith)))

-- ---- each record can be kept: put into an area it is read back, by its own sizes

module _ (l : Layout) (area : List ℕ) (room : length area ≡ area_size) (roles : length l.roles ≡ octet_limit) (waves : length l.waves ≡ colour_limit) where
  pub layout_kept : (sample_in l.width l.colours (layout_put l area) ≡ sample_of l) × (length (layout_put l area) ≡ area_size)
  unfolding layout_put
  layout_kept =
      let long = length-word_octets l.waves in
      let word = length-word_octets (l.space ∷ []) in
      let one = octets_put area 0 l.roles in
      let one_long : length one ≡ area_size = length-put area 0 l.roles (omega arith) ∙ room in
      let two = octets_put one octet_limit (word_octets l.waves) in
      let two_fits : octet_limit + length (word_octets l.waves) ≤ length one = omega arith in
      let two_long : length two ≡ area_size = length-put one octet_limit (word_octets l.waves) two_fits ∙ one_long in
      let three_fits : space_place + length (word_octets (l.space ∷ [])) ≤ length two = omega arith in
      let octets = word_octets (l.space ∷ []) in
      let kept_roles = octets-kept two space_place octets three_fits 0 octet_limit (omega arith)
      ∙ octets-kept one octet_limit (word_octets l.waves) two_fits 0 octet_limit (omega arith)
      ∙ octets_put_lem area 0 l.roles (omega arith) octet_limit roles in
      let kept_waves = words_kept two space_place octets three_fits octet_limit colour_limit (omega arith)
      ∙ (rw waves at (words_put one octet_limit l.waves two_fits)) in
      let kept_space = word-put two space_place l.space (omega arith) in (
        (λ i. record { roles = take l.width (kept_roles i); waves = take l.colours (kept_waves i); space = kept_space i }),
        length-put two space_place octets three_fits ∙ two_long,
      )

module _ (d : Dimmer) (area : List ℕ) (room : length area ≡ area_size) (bases : length d.bases ≡ subset_limit) (counts : length d.counts ≡ subset_limit) where
  pub dimmer_kept : (mapping_in d.count (dimmer_put d area) ≡ mapping_of d) × (length (dimmer_put d area) ≡ area_size)
  unfolding dimmer_put
  dimmer_kept =
      let octets = word_octets d.bases in
      let long = length-word_octets d.bases in
      let word = length-word_octets (d.base ∷ []) in
      let one = octets_put area 0 octets in
      let one_long : length one ≡ area_size = length-put area 0 octets (omega arith) ∙ room in
      let two = octets_put one counts_place d.counts in
      let two_fits : counts_place + length d.counts ≤ length one = omega arith in
      let two_long : length two ≡ area_size = length-put one counts_place d.counts two_fits ∙ one_long in
      let base = word_octets (d.base ∷ []) in
      let three_fits : base_place + length base ≤ length two = omega arith in
      let kept_bases = words_kept two base_place base three_fits 0 subset_limit (omega arith)
      ∙ words_kept one counts_place d.counts two_fits 0 subset_limit (omega arith)
      ∙ (rw bases at (words_put area 0 d.bases (omega arith))) in
      let kept_counts = octets-kept two base_place base three_fits counts_place subset_limit (omega arith)
      ∙ octets_put_lem one counts_place d.counts two_fits subset_limit counts in
      let kept_base = word-put two base_place d.base (omega arith) in (
        (λ i. record { base = kept_base i; subsets = subsets_of (take d.count (kept_bases i)) (take d.count (kept_counts i)) }),
        length-put two base_place base three_fits ∙ two_long,
      )

-- ---- what the checks of tags leave can be kept, in any area

module _ (mode : ℕ) (tags : List ℕ) (area : List ℕ) (room : length area ≡ area_size) where
  pub dictionary_kept : (sample_in (layout_of (dictionary_sample mode tags)).width (layout_of (dictionary_sample mode tags)).colours (layout_put (layout_of (dictionary_sample mode tags)) area)
      ≡ dictionary_sample mode tags) × (length (layout_put (layout_of (dictionary_sample mode tags)) area) ≡ area_size)
  dictionary_kept =
      let s = dictionary_sample mode tags in
      let kept = layout_kept (layout_of s) area room (length-padded octet_limit s.roles (dictionary_sample-octets mode tags))
      (length-padded colour_limit s.waves (dictionary_sample-colours mode tags)) in
      (kept.0 ∙ sample_of-layout_of s, kept.1)

module _ (tags : List ℕ) (octets : (k : ℕ) → get_or tags k 0 < 256) (area : List ℕ) (room : length area ≡ area_size) where
  pub dimmer_tags_kept : (mapping_in (dimmer_of (dimmer_mapping tags)).count (dimmer_put (dimmer_of (dimmer_mapping tags)) area) ≡ dimmer_mapping tags)
      × (length (dimmer_put (dimmer_of (dimmer_mapping tags)) area) ≡ area_size)
  dimmer_tags_kept =
      let m = dimmer_mapping tags in
      let few = (dimmer_mapping-ranged tags octets).few in
      let kept = dimmer_kept (dimmer_of m) area room
      (length-padded subset_limit (map base_of m.subsets) (rw (length-map m.subsets base_of) few))
      (length-padded subset_limit (map count_of m.subsets) (rw (length-map m.subsets count_of) few)) in
      (kept.0 ∙ mapping_of-dimmer_of m, kept.1)

-- ---- the octets of a sample that is kept

pub kept-octets : (size colours : ℕ) (area : List ℕ) → length area ≡ area_size → sample_octets (sample_in size colours area) ≡ octets_of size
kept-octets size colours area e = rw (length-take size (take octet_limit area), length-take-le octet_limit area (omega arith))

-- ---- what the checks of tags leave passes the tests of its sizes

pub dictionary_sizes : (mode : ℕ) (tags : List ℕ)
    → sizes_fit (layout_of (dictionary_sample mode tags)).width (layout_of (dictionary_sample mode tags)).colours ≡ true
unfolding sizes_fit
dictionary_sizes mode tags =
    let s = dictionary_sample mode tags in
    rw (
      le-leb (length s.roles) subset_limit (le_trans (dictionary_sample-octets mode tags) (lit≤ tt)),
      le-leb (length s.waves) colour_limit (dictionary_sample-colours mode tags),
    )

-- that the tags are octets is asked, since a count above 255 would run over into the base
pub dimmer_sizes : (tags : List ℕ) → ((k : ℕ) → get_or tags k 0 < 256) → sizes_fit (dimmer_of (dimmer_mapping tags)).count 0 ≡ true
unfolding sizes_fit
dimmer_sizes tags octets =
    rw (le-leb (length (dimmer_mapping tags).subsets) subset_limit (dimmer_mapping-ranged tags octets).few)
