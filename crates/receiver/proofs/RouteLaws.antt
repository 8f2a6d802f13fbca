-- Laws about routing: the known modes, and what a configuration of a known mode means.
use mathlib.Core.Path.{◌≡◌, refl, ap, ◌∙◌}
use Prim.Native.Nat.{ℕ, ◌+◌, ◌<◌}
use mathlib.Core.Bool.{true, false, cond, ◌||◌}
use mathlib.Core.Logic.{⊎_elim, ◌⊎◌}
use native.Mathlib.Omega.{arith}
use lib.Dec.{eqb, lit≤}
use lib.ListN.{get_or}
use borrow.Author.Tests.{eqb-true, ne_eqb}
use mathlib.Core.List.{List}
use Rattle.tags.specs.ChoiceLaws.{or_cases, not-zero}
use Rattle.tags.specs.Dictionary.{Sample, no_sample, dictionary_number, dictionary_sample}
use Rattle.tags.specs.Dimmer.{Mapping, no_mapping, dimmer_number, dimmer_mapping}
use Rattle.tags.specs.Layout.{sample_of, mapping_of, layout_of, dimmer_of, dictionary_checked, dimmer_mapped}
use Rattle.tags.specs.LayoutLaws.{sample_of-layout_of, mapping_of-dimmer_of}
use Rattle.tags.specs.declared.Layout.{Layout}
use Rattle.tags.specs.declared.Checked.{Checked}
use Rattle.tags.specs.declared.Dimmer.{Dimmer}
use Rattle.tags.specs.declared.Mapped.{Mapped}
use Rattle.tags.specs.Kept.{sample_in, mapping_in, sizes_fit}
use Rattle.tags.specs.KeptLaws.{dictionary_sizes, dimmer_sizes}
use Rattle.receiver.specs.Modes.{graphic_mode, dimmer_mode, known_mode, service_fits}
use Rattle.receiver.specs.Governing.{Configuration, routed_to, meant}
use Rattle.receiver.specs.Checks.{tags_number, routing_number}
use Rattle.receiver.specs.Record.{open_state, mode_in, configuration_of, consistent_at, Config}
use Rattle.receiver.specs.Steps.{RoutedTo, Found}
use Rattle.receiver.specs.Kinds.{mode_number}
use Rattle.receiver.specs.declared.modes.Mode.{Mode}
use Rattle.receiver.specs.declared.modes.Mode.TheVariants.{Void, Wave, Frame, Effects, Universe}
use Rattle.receiver.proofs.NumberLaws.{first_refused}

-- ---- the modes one by one

module _ (P : ℕ → Type 0) where
  at_eqb : (mode n : ℕ) → P n → eqb mode n ≡ true → P mode
  at_eqb mode n p e = rw (eqb-true mode n e) p

  pub graphic_mode-cases : (mode : ℕ) → graphic_mode mode ≡ true → P 1 → P 2 → P mode
  graphic_mode-cases mode e p q = ⊎_elim (at_eqb mode 1 p) (at_eqb mode 2 q) (or_cases (eqb mode 1) (eqb mode 2) e)

  pub dimmer_mode-cases : (mode : ℕ) → dimmer_mode mode ≡ true → P 4 → P 6 → P mode
  dimmer_mode-cases mode e p q = ⊎_elim (at_eqb mode 4 p) (at_eqb mode 6 q) (or_cases (eqb mode 4) (eqb mode 6) e)

  pub known_mode-cases : (mode : ℕ) → known_mode mode ≡ true → P 0 → P 1 → P 2 → P 4 → P 6 → P mode
  known_mode-cases mode e p0 p1 p2 p4 p6 =
      ⊎_elim
      (λ k. ⊎_elim (at_eqb mode 0 p0) (λ g. graphic_mode-cases mode g p1 p2) (or_cases (eqb mode 0) (graphic_mode mode) k))
      (λ d. dimmer_mode-cases mode d p4 p6)
      (or_cases (eqb mode 0 || graphic_mode mode) (dimmer_mode mode) e)

pub graphic_mode-not-dimmer_mode : (mode : ℕ) → graphic_mode mode ≡ true → dimmer_mode mode ≡ false
graphic_mode-not-dimmer_mode mode e = graphic_mode-cases (λ m. dimmer_mode m ≡ false) mode e refl refl

pub dimmer_mode-not-graphic_mode : (mode : ℕ) → dimmer_mode mode ≡ true → graphic_mode mode ≡ false
dimmer_mode-not-graphic_mode mode e = dimmer_mode-cases (λ m. graphic_mode m ≡ false) mode e refl refl

-- ---- a configuration that is open

-- what a configuration with the state of a mode means
module _ (k : Config) (mode : ℕ) (e : k.state ≡ mode + 1) where
  state_mode : mode_in k.state ≡ mode
  state_mode = rw e (omega arith)

  state_open : open_state k.state ≡ true
  state_open = let not_closed : eqb (mode + 1) 0 ≡ false = ne_eqb (mode + 1) 0 (omega arith) in rw (e, not_closed)

  pub configuration_state : (area : List ℕ) → configuration_of k area
      ≡ record {
        is_open = true;
        mode = mode;
        match = k.match_bits;
        sample = cond (graphic_mode mode) (sample_in k.size k.colours area) no_sample;
        mapping = cond (dimmer_mode mode) (mapping_in k.size area) no_mapping;
      }
  unfolding configuration_of
  configuration_state area = rw (state_open, state_mode)

  -- it is consistent where the mode is one that there is and the sizes fit
  consistent-open : known_mode mode ≡ true → sizes_fit k.size k.colours ≡ true → consistent_at k ≡ true
  unfolding consistent_at
  consistent-open known fit = rw (state_mode, known, fit)

-- ---- what Routing keeps

graphic-number : (m : Mode) → (m ≡ Wave) ⊎ (m ≡ Frame) → graphic_mode (mode_number m) ≡ true
graphic-number m w = ⊎_elim (λ (e : m ≡ Wave). rw e) (λ (e : m ≡ Frame). rw e) w

dimmer-number : (m : Mode) → (m ≡ Effects) ⊎ (m ≡ Universe) → dimmer_mode (mode_number m) ≡ true
dimmer-number m w = ⊎_elim (λ (e : m ≡ Effects). rw e) (λ (e : m ≡ Universe). rw e) w

known-number : (m : Mode) → known_mode (mode_number m) ≡ true
known-number m = grind arith

-- open in a mode, with match bits and two sizes
abbrev opened : Mode → ℕ → ℕ → ℕ → Config
opened m match size colours = record { state = mode_number m + 1; match_bits = match; size = size; colours = colours }

-- what is kept of a routing to mode n reads back as what the routing brings
module _ (m : Mode) (n match service : ℕ) (tags area : List ℕ) (mode : mode_number m ≡ n) where
  pub graphic-kept : (size colours : ℕ) → (m ≡ Wave) ⊎ (m ≡ Frame) → sample_in size colours area ≡ dictionary_sample n tags
      → configuration_of (opened m match size colours) area ≡ meant (routed_to n service match tags)
  unfolding meant
  graphic-kept size colours graphic kept =
      let g = rw mode at (graphic-number m graphic) in
      configuration_state (opened m match size colours) n (ap (λ (k : ℕ). k + 1) mode) area
      ∙ rw (g, graphic_mode-not-dimmer_mode n g, kept)

  pub dimming-kept : (size : ℕ) → (m ≡ Effects) ⊎ (m ≡ Universe) → mapping_in size area ≡ dimmer_mapping tags
      → configuration_of (opened m match size 0) area ≡ meant (routed_to n service match tags)
  unfolding meant
  dimming-kept size dims kept =
      let e = rw mode at (dimmer-number m dims) in
      configuration_state (opened m match size 0) n (ap (λ (k : ℕ). k + 1) mode) area
      ∙ rw (dimmer_mode-not-graphic_mode n e, e, kept)

  pub void-kept : m ≡ Void → configuration_of (opened m match 0 0) area ≡ meant (routed_to n service match tags)
  unfolding meant
  void-kept void =
      let zero-is : 0 ≡ n = rw void at mode in
      configuration_state (opened m match 0 0) n (ap (λ (k : ℕ). k + 1) mode) area ∙ rw (← zero-is)

-- and is consistent
pub opened-sound : (m : Mode) (match size colours : ℕ) → sizes_fit size colours ≡ true → consistent_at (opened m match size colours) ≡ true
opened-sound m match size colours fit = consistent-open (opened m match size colours) (mode_number m) refl (known-number m) fit

pub ruleset routing_laws = (first_refused, graphic-kept, dimming-kept, void-kept, opened-sound)

-- ---- what is kept of tags

module _ (n : ℕ) (tags area : List ℕ) where
  module _ (l : Layout) (read : record { number = 0; layout = l } ≡ dictionary_checked n tags) where
    layout_is : l ≡ layout_of (dictionary_sample n tags)
    layout_is = ap (λ (c : Checked). c.layout) read

    pub dictionary-kept : sample_in l.width l.colours area ≡ sample_of l → sample_in l.width l.colours area ≡ dictionary_sample n tags
    dictionary-kept kept = kept ∙ ap sample_of layout_is ∙ sample_of-layout_of (dictionary_sample n tags)

    pub layout-sizes : sizes_fit l.width l.colours ≡ true
    layout-sizes = rw layout_is (dictionary_sizes n tags)

  pub mapping-kept : (d : Dimmer) → record { number = 0; dimmer = d } ≡ dimmer_mapped tags → mapping_in d.count area ≡ mapping_of d
      → mapping_in d.count area ≡ dimmer_mapping tags
  mapping-kept d read kept = kept ∙ ap (λ (c : Mapped). mapping_of c.dimmer) read ∙ mapping_of-dimmer_of (dimmer_mapping tags)

pub ruleset keeping_laws = (dictionary-kept, layout-sizes, mapping-kept)

-- ---- each way through the checks of a routing

module _ (mode service match : ℕ) (tags area : List ℕ) where
  -- what is found for the routing, with two sizes
  abbrev pub routed : ℕ → ℕ → ℕ → Found
  routed number size colours =
      record { number = number; config = record { state = mode + 1; match_bits = match; size = size; colours = colours } }

  -- a refusal finds nothing that governs
  refused-found : (f : Found) (n : ℕ) → 0 < n → f.number ≡ n → n ≡ routing_number mode service tags
      → RoutedTo mode service match tags f area
  refused-found f n h e q =
      record {
        number = e ∙ q;
        config = λ z. absurd (not-zero f.number n h e z);
        sound = λ z. absurd (not-zero f.number n h e z);
      }

  pub found-unknown : (f : Found) → f.number ≡ 6 → known_mode mode ≡ false → RoutedTo mode service match tags f area
  unfolding routing_number
  found-unknown f e k = refused-found f 6 (lit≤ tt) e (rw k)

  module _ (known : known_mode mode ≡ true) where
    pub found-misfit : (f : Found) → f.number ≡ 7 → service_fits mode service ≡ false → RoutedTo mode service match tags f area
    unfolding routing_number
    found-misfit f e k = refused-found f 7 (lit≤ tt) e (rw (known, k))

    module _ (fits : service_fits mode service ≡ true) where
      -- the area reads back as the sample of the dictionary
      pub found-graphic : graphic_mode mode ≡ true
          → (let l = layout_of (dictionary_sample mode tags) in sample_in l.width l.colours area ≡ dictionary_sample mode tags)
          → RoutedTo mode service match tags
          (let l = layout_of (dictionary_sample mode tags) in routed (dictionary_number mode tags) l.width l.colours) area
      unfolding routing_number tags_number meant
      found-graphic g kept =
          let l = layout_of (dictionary_sample mode tags) in
          let f = routed (dictionary_number mode tags) l.width l.colours in
          record {
            number = rw (known, fits, g);
            config = λ z.
                configuration_state f.config mode refl area
                ∙ rw (g, graphic_mode-not-dimmer_mode mode g) (ap opened kept);
            sound = λ z. consistent-open f.config mode refl known (dictionary_sizes mode tags);
          }
        where
          opened : Sample → Configuration
          opened s = record { is_open = true; mode = mode; match = match; sample = s; mapping = no_mapping }

      -- the area reads back as the mapping of the dimmer tags
      pub found-dimming : graphic_mode mode ≡ false → dimmer_mode mode ≡ true → ((k : ℕ) → get_or tags k 0 < 256)
          → (let d = dimmer_of (dimmer_mapping tags) in mapping_in d.count area ≡ dimmer_mapping tags)
          → RoutedTo mode service match tags (routed (dimmer_number tags) (dimmer_of (dimmer_mapping tags)).count 0) area
      unfolding routing_number tags_number meant
      found-dimming g m octets kept =
          let f = routed (dimmer_number tags) (dimmer_of (dimmer_mapping tags)).count 0 in
          record {
            number = rw (known, fits, g, m);
            config = λ z.
                configuration_state f.config mode refl area
                ∙ rw (g, m) (ap opened kept);
            sound = λ z. consistent-open f.config mode refl known (dimmer_sizes tags octets);
          }
        where
          opened : Mapping → Configuration
          opened n = record { is_open = true; mode = mode; match = match; sample = no_sample; mapping = n }

      -- neither: mode 0
      pub found-void : graphic_mode mode ≡ false → dimmer_mode mode ≡ false → RoutedTo mode service match tags (routed 0 0 0) area
      unfolding routing_number tags_number meant sizes_fit
      found-void g m =
          record {
            number = rw (known, fits, g, m);
            config = λ z. rw (configuration_state (routed 0 0 0).config mode refl area, g, m);
            sound = λ z. consistent-open (routed 0 0 0).config mode refl known refl;
          }
