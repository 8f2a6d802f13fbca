-- `receiver::draw::draw_points` meets its contract: each way out is the first of checks 20, 22 and 23 that refuses, or the drawing.
use Rattle.std.proofs.Common.{rules, ◌≡◌, refl, sym, ap, ◌+◌, ℕ, List, length, ◌≤◌}
use mathlib.Core.Path.{◌∙◌, subst}
use mathlib.Core.Bool.{cond}
use lib.Dec.{eqb}
use Rattle.tags.specs.Choice.{refuse}
use Rattle.tags.specs.Dictionary.{Sample}
use Rattle.tags.specs.Layout.{sample_of}
use Rattle.tags.specs.Rows.{points_by, lit_points_by, behind_by, room_by, drawn_by}
use Rattle.tags.specs.Kept.{area_size, sample_in}
use Rattle.tags.specs.KeptLaws.{kept-octets}
use Rattle.receiver.specs.Slices.{Slices, slices, lengths}
use Rattle.receiver.specs.Chunk.{Chunk, chunk, body, lit_points_for}
use Rattle.receiver.specs.Checks.{content_number, meter_number, whole_number}
use Rattle.receiver.specs.Meters.{sums, over_limit}
use Rattle.receiver.specs.Contract.{sums_in}
use Rattle.receiver.specs.Kinds.{type_number}
use Rattle.receiver.specs.Views.{meaning, config_of}
use Rattle.receiver.specs.declared.governing.Governing as governing
use Rattle.receiver.proofs.ChunkLaws.{lit-le-points, lit-duration, drawn-rows}
use Rattle.receiver.proofs.MeterLaws.{meter-drawing}
use Rattle.receiver.proofs.NumberLaws.{first-refused}
use Rattle.receiver.proofs.WorkLaws.{first-passed}
use Rattle.receiver.proofs.DrawLaws.{concluded-refused, concluded-done, content-drawing}
use Rattle.receiver.proofs.draw.draw_points.Goals as goal
use Rattle.receiver.proofs.draw.draw_points.Goals.{After-duration-time}

-- the lit points of one body by two names
lit-same : {s s₁ : Sample} {n n₁ : ℕ} {octets octets₁ : List ℕ} → s ≡ s₁ → n ≡ n₁ → octets ≡ octets₁
    → lit_points_by s (behind_by s n octets) ≡ lit_points_by s₁ (behind_by s₁ n₁ octets₁)
lit-same e f g = λ i. lit_points_by (e i) (behind_by (e i) (f i) (g i))

module _ (c : After-duration-time) where
  abbrev g : governing.Governing
  g = c.args.governing.now

  abbrev this : Chunk
  this = chunk (type_number c.args.chunk.now.chunk_type) c.args.chunk.now.section.now

  abbrev sample : Sample
  sample = sample_in g.size g.colours g.area

  abbrev lit : ℕ
  lit = lit_points_for this sample

  long : length g.area ≡ area_size
  long = search rules

  section : c.body-octets.result.now ≡ body this
  section = c.body-octets.ensures.value

  counted : c.in_ok-points.points ≡ points_by sample (body this)
  counted = rw (kept-octets g.size g.colours g.area long, ← section) c.in_ok-points.ensures.points

  same : lit ≡ lit_points_by (sample_of c.layout_in-layout.result) (behind_by (sample_of c.layout_in-layout.result) c.unlit_samples-start.result c.body-octets.result.now)
  same = sym (lit-same c.layout_in-layout.ensures c.unlit_samples-start.ensures section)

  passed : (a : Slices) → a.rows ≡ c.args.rows.now → 0 ≡ content_number this (meaning g) (lengths a)
  passed a e = rw (content-drawing (type_number c.args.chunk.now.chunk_type) c.args.chunk.now.section.now (config_of g) g.area (lengths a) long c.requires.drawing, e, ← section) c.in_ok-points.ensures.number

  near : meter_number this (meaning g) (sums_in c.args.meters)
      ≡ refuse (over_limit (sums (c.args.meters.lit_time + cond (eqb lit 0) 0 c.duration-time.result) (c.args.meters.points + c.in_ok-points.points) (c.args.meters.lit_points + lit))) 23
  near =
      meter-drawing this (config_of g) g.area (sums_in c.args.meters) c.in_ok-points.points lit (cond (eqb lit 0) 0 c.duration-time.result) c.requires.drawing counted refl
      (ap (λ (n : ℕ). cond (eqb lit 0) 0 n) c.duration-time.ensures.0)

pub returns-in_err-points : goal.returns-in_err-points
unfolding whole_number
returns-in_err-points c levels a =
    let t = type_number c.args.chunk.now.chunk_type in
    let g : governing.Governing = c.args.governing.now in
    let s : Slices = slices c.args.rows.now levels a in
    concluded-refused (chunk t c.args.chunk.now.section.now) (meaning g) (sums_in c.args.meters) s _ c.in_err-points.field-0.0 (search rules)
    (rw (content-drawing t c.args.chunk.now.section.now (config_of g) g.area (lengths s) (search rules) c.requires.drawing, ← c.body-octets.ensures.value)
    (first-refused _ c.in_err-points.field-0.0 _ _ refl c.in_err-points.ensures.number))

pub check_meters-requires-clause-lit : goal.check_meters-requires-clause-lit
check_meters-requires-clause-lit c =
    let d = (goal.at.check_meters-requires-clause-lit c).After-duration-time in
    subst (λ (n : ℕ). n ≤ c.in_ok-points.points) (same d) (rw (counted d) (lit-le-points (this d) (sample d)))

pub returns-in_err-check_meters : goal.returns-in_err-check_meters
unfolding whole_number
returns-in_err-check_meters c levels a =
    let d = (goal.at.returns-in_err-check_meters c).After-duration-time in
    let s : Slices = slices c.args.rows.now levels a in
    concluded-refused (this d) (meaning (g d)) (sums_in c.args.meters) s _ c.in_err-check_meters.field-0.0 (search rules)
    (first-passed _ _ _ (passed d s refl) (c.in_err-check_meters.ensures (lit d) (same d) ∙ sym (near d)))

pub returns : goal.returns
unfolding whole_number
returns c levels a =
    let d = (goal.at.returns c).After-duration-time in
    let s : Slices = slices c.args.rows.now levels a in
    let shown : c.draw-lit.result ≡ cond (room_by (sample d) (body (this d)) c.args.rows.now) (lit d) 0 = rw (← ap (λ (x : Sample). x.roles) c.layout_in-layout.ensures, ← c.unlit_samples-start.ensures, ← section d) c.draw-lit.ensures.value in
    let rows : c.draw-lit.new.rows ≡ cond (room_by (sample d) (body (this d)) c.args.rows.now) (drawn_by (sample d) (body (this d)) c.args.rows.now) c.args.rows.now = rw (← ap (λ (x : Sample). x.roles) c.layout_in-layout.ensures, ← ap (λ (x : Sample). x.waves) c.layout_in-layout.ensures, ← section d) c.draw-lit.ensures.rows_after in
    let time = c.counted_time-lit_time.ensures ∙ lit-duration (eqb c.draw-lit.result 0) c.duration-time.result ∙ ap (λ (n : ℕ). cond (eqb c.draw-lit.result 0) 0 n) c.duration-time.ensures.0 in
    concluded-done (this d) (meaning (g d)) (sums_in c.args.meters) s _ (slices c.draw-lit.new.rows levels a)
    (first-passed _ _ _ (passed d s refl) (c.in_ok-check_meters.ensures (lit d) (same d) ∙ sym (near d)))
    (drawn-rows (type_number c.args.chunk.now.chunk_type) c.args.chunk.now.section.now (config_of (g d)) (g d).area s c.counted_time-lit_time.result c.in_ok-points.points c.draw-lit.result c.draw-lit.new.rows
    c.requires.drawing (sym (passed d s refl)) (counted d) shown time rows)
