-- Laws about a chunk: what its type and mode say of what governs it, what checks 20 to 22 leave, and what an accepted one writes.
use mathlib.Core.Path.{◌≡◌, refl, sym, ap, ◌∙◌}
use Prim.Native.Nat.{ℕ, ◌*◌, ◌≤◌}
use mathlib.Core.Bool.{Bool, true, false, cond, not, ◌&&◌, ◌||◌}
use mathlib.Core.List.{List}
use mathlib.Core.Logic.{⊎_elim}
use lib.IntN.{ℤ}
use lib.ListN.{length}
use lib.Dec.{leb, eqb, lit≤}
use borrow.Author.Tests.{ltb-false, le-leb, eqb-true, not-false}
use Rattle.tags.specs.Rows.{sample_octets, points_by, room_by, drawn_by}
use Rattle.tags.specs.RowsLaws.{lit_points-behind-le-points}
use Rattle.tags.specs.Dictionary.{Sample}
use Rattle.tags.specs.Dimmer.{Mapping}
use Rattle.tags.specs.Kept.{sample_in, mapping_in}
use Rattle.tags.specs.Limits.{row_size}
use Rattle.tags.specs.Choice.{refuse}
use Rattle.tags.specs.ChoiceLaws.{and_left, and_right, or_cases, first-zero_left, first-zero_right, refuse-zero}
use Rattle.tags.specs.Levels.{levels_fit, levels_drawn, levels_counted}
use Rattle.receiver.specs.Modes.{graphic_mode, dimmer_mode}
use Rattle.receiver.specs.Governing.{Configuration}
use Rattle.receiver.specs.Slices.{Slices, Lent, slices, lengths}
use Rattle.receiver.specs.Chunk.{Chunk, chunk, is_drawing, is_dimming, duration, body, start_samples, lit_points_for, points_of, lit_points_of, levels_of}
use Rattle.receiver.specs.Meters.{added_by}
use Rattle.receiver.specs.Checks.{wrong_count, draw_number, dim_number, content_number}
use Rattle.receiver.specs.Effects.{drawn}
use Rattle.receiver.specs.Record.{mode_in, configuration_of, Config}
use Rattle.receiver.specs.Steps.{counts_of, no_counts}
use Rattle.receiver.specs.declared.draw.Counts.{Counts}
use Rattle.receiver.proofs.RecordLaws.{configuration_mode, graphic_sample, dimming_mapping}

-- ---- waves, frames and dimmer levels one by one

module _ (P : ℕ → ℕ → Type 0) (t : ℕ) (v : Configuration) where
  pair_case : (x y : ℕ) → P x y → eqb t x && eqb v.mode y ≡ true → P t v.mode
  pair_case x y p e =
      rw (eqb-true t x (and_left (eqb t x) (eqb v.mode y) e), eqb-true v.mode y (and_right (eqb t x) (eqb v.mode y) e)) p

  pub drawing-cases : is_drawing t v ≡ true → P 1 1 → P 2 2 → P t v.mode
  drawing-cases e p q =
      ⊎_elim (pair_case 1 1 p) (pair_case 2 2 q) (or_cases (eqb t 1 && eqb v.mode 1) (eqb t 2 && eqb v.mode 2) e)

  pub is_dimming-cases : is_dimming t v ≡ true → P 0x18 4 → P 0x18 6 → P t v.mode
  is_dimming-cases e p q =
      let type = eqb-true t 0x18 (and_left (eqb t 0x18) (dimmer_mode v.mode) e) in
      ⊎_elim
      (λ a. rw (type, eqb-true v.mode 4 a) p)
      (λ a. rw (type, eqb-true v.mode 6 a) q)
      (or_cases (eqb v.mode 4) (eqb v.mode 6) (and_right (eqb t 0x18) (dimmer_mode v.mode) e))

module _ (t : ℕ) (v : Configuration) where
  pub not-drawing : is_dimming t v ≡ true → is_drawing t v ≡ false
  not-drawing d = is_dimming-cases (λ a b. eqb a 1 && eqb b 1 || eqb a 2 && eqb b 2 ≡ false) t v d refl refl

  not-dimming : is_drawing t v ≡ true → is_dimming t v ≡ false
  not-dimming d = drawing-cases (λ a b. eqb a 0x18 && (eqb b 4 || eqb b 6) ≡ false) t v d refl refl

-- ---- what governs a chunk that draws or dims: the channel's layout, or its mapping

module _ (t : ℕ) (k : Config) (area : List ℕ) where
  pub drawing-sample : is_drawing t (configuration_of k area) ≡ true → (configuration_of k area).sample ≡ sample_in k.size k.colours area
  drawing-sample d =
      graphic_sample k area (rw (← configuration_mode k area) (drawing-cases (λ a b. graphic_mode b ≡ true) t (configuration_of k area) d refl refl))

  pub is_dimming-mapping : is_dimming t (configuration_of k area) ≡ true → (configuration_of k area).mapping ≡ mapping_in k.size area
  is_dimming-mapping d =
      dimming_mapping k area (rw (← configuration_mode k area) (is_dimming-cases (λ a b. dimmer_mode b ≡ true) t (configuration_of k area) d refl refl))

-- ---- what checks 20 to 22 leave

module _ (k : Chunk) (v : Configuration) (lent : Lent) (passed : content_number k v lent ≡ 0) where
  -- a wave or frame has room for its rows
  drawing-room : is_drawing k.type v ≡ true → leb (points_by v.sample (body k) * row_size) lent.rows ≡ true
  unfolding content_number draw_number
  drawing-room d =
      le-leb (points_by v.sample (body k) * row_size) lent.rows
      (ltb-false lent.rows (points_by v.sample (body k) * row_size)
      (refuse-zero _ 22 (lit≤ tt) (first-zero_right (refuse (wrong_count k.type (sample_octets v.sample) (length (body k))) 20) _ (rw d at passed))))

  -- dimmer levels go with their mapping
  dimming_fits : is_dimming k.type v ≡ true → levels_fit v.mapping (length (body k)) ≡ true
  unfolding content_number dim_number
  dimming_fits d =
      not-false _
      (refuse-zero _ 21 (lit≤ tt) (first-zero_left (refuse (not (levels_fit v.mapping (length (body k)))) 21) _ (rw (not-drawing k.type v d, d) at passed)))

-- no more points are lit than there are
pub lit-le-points : (k : Chunk) (s : Sample) → lit_points_for k s ≤ points_by s (body k)
lit-le-points k s = lit_points-behind-le-points s (start_samples k.type) (body k)

-- ---- the writing of an accepted chunk

-- the Duration that counts, asked the other way round
pub lit-duration : (dark : Bool) (time : ℕ) → cond (not dark) time 0 ≡ cond dark 0 time
lit-duration true time = refl
lit-duration false time = refl

module _ (t : ℕ) (octets : List ℕ) (k : Config) (area : List ℕ) (s : Slices) where
  abbrev this : Chunk
  this = chunk t octets

  -- a wave or frame with room for its rows
  pub drawn-rows : (time points lit : ℕ) (rows₁ : List ℤ) → is_drawing t (configuration_of k area) ≡ true
      → content_number this (configuration_of k area) (lengths s) ≡ 0
      → points ≡ points_by (sample_in k.size k.colours area) (body this)
      → lit
      ≡ cond (room_by (sample_in k.size k.colours area) (body this) s.rows)
      (lit_points_for this (sample_in k.size k.colours area))
      0
      → time ≡ cond (eqb lit 0) 0 (duration this)
      → rows₁
      ≡ cond (room_by (sample_in k.size k.colours area) (body this) s.rows)
      (drawn_by (sample_in k.size k.colours area) (body this) s.rows)
      s.rows
      → (◌≡◌ {A = Counts} (record { lit_time = time; points = points; lit_points = lit; levels = 0 }) (counts_of this (configuration_of k area)))
      × (slices rows₁ s.levels s.assembly ≡ drawn this (configuration_of k area) s)
  unfolding points_of lit_points_of levels_of added_by drawn
  drawn-rows time points lit rows₁ d e ep el et er =
      let sample = drawing-sample t k area d in
      let other = not-dimming t (configuration_of k area) d in
      let room : room_by (sample_in k.size k.colours area) (body this) s.rows ≡ true =
      ap (λ (a : Sample). room_by a (body this) s.rows) (sym sample)
      ∙ drawing-room this (configuration_of k area) (lengths s) e d in
      (rw (d, other, sample, et, ← (rw room at el), ep), rw (d, other, sample) (ap (λ (a : List ℤ). slices a s.levels s.assembly) (rw room at er)))

  -- dimmer levels that fit
  pub drawn-levels : (mode n : ℕ) (levels₁ : List ℕ) → is_dimming t (configuration_of k area) ≡ true
      → content_number this (configuration_of k area) (lengths s) ≡ 0 → mode ≡ mode_in k.state
      → n ≡ levels_counted (mapping_in k.size area) (length (body this))
      → levels₁ ≡ levels_drawn mode (mapping_in k.size area) (body this) s.levels
      → (◌≡◌ {A = Counts} (record { lit_time = 0; points = 0; lit_points = 0; levels = n }) (counts_of this (configuration_of k area)))
      × (slices s.rows levels₁ s.assembly ≡ drawn this (configuration_of k area) s)
  unfolding points_of lit_points_of levels_of added_by drawn levels_counted levels_drawn
  drawn-levels mode n levels₁ d e em en el =
      let mapping = is_dimming-mapping t k area d in
      let other = not-drawing t (configuration_of k area) d in
      let fits : levels_fit (mapping_in k.size area) (length (body this)) ≡ true =
      ap (λ (m : Mapping). levels_fit m (length (body this))) (sym mapping)
      ∙ dimming_fits this (configuration_of k area) (lengths s) e d in (
        rw (other, d, mapping) (ap (λ (a : ℕ). record { lit_time = 0; points = 0; lit_points = 0; levels = a }) (rw fits at en)),
        rw (other, d, mapping, configuration_mode k area, ← em) (ap (λ (a : List ℕ). slices s.rows a s.assembly) (rw fits at el)),
      )

  -- neither: nothing is written
  pub drawn-none : is_drawing t (configuration_of k area) ≡ false → is_dimming t (configuration_of k area) ≡ false
      → (no_counts ≡ counts_of this (configuration_of k area)) × (s ≡ drawn this (configuration_of k area) s)
  unfolding points_of lit_points_of levels_of added_by drawn
  drawn-none d m = (rw (d, m), rw (d, m))
